-- The report of a script, and how its run ends (own).
use Rattle.std.specs.Prelude.{◌≡◌, ◌⊎◌, List, ℕ, Result, Ok, Err}
use Rattle.isis_edge.specs.Told.{Wrote, WrotePrefix}
use Rattle.lab_script.specs.declared.reason.ScriptFault.{ScriptFault}
use Rattle.lab_script.specs.declared.reason.ScriptFault.TheVariants.{Refused, Limit}
use Rattle.lab_script.specs.declared.script.Script.{Script}
use Rattle.lab_script.specs.declared.script.Script.TheVariants.{Keys, Lab}
use Rattle.lab_text.specs.declared.fault.RunFault.{RunFault}
use Rattle.lab_text.specs.declared.fault.RunFault.TheVariants as run
use Rattle.lab_text.specs.KeysRuns.{keys_report, keys_outcome}
use Rattle.lab_text.specs.LabReports.{IsLabReport, lab_outcome}

-- a text is the report of a script
abbrev pub IsReport : Script → List ℕ → Type 0
IsReport (Keys script) text = keys_report script ≡ Ok text
IsReport (Lab script) text = IsLabReport script text

-- what a script comes to: an end, or what refuses it while it runs
abbrev pub outcome_of : Script → Result (Unit {0}) ScriptFault
outcome_of (Keys script) = keys_outcome script
outcome_of (Lab script) = lab_outcome script

-- the sink holds a first part of a text more
abbrev pub WrotePart : (List ℕ → Type 0) → (before now : List ℕ) → Type 0
WrotePart IsText before now = (text : List ℕ) × IsText text × WrotePrefix before now text

-- how a run with this outcome and such a report ends: the answer has its cause in the script, and the
-- sink holds the report, a prefix of it, or no more than before
abbrev pub ReportEnds : (List ℕ → Type 0) → Result (Unit {0}) ScriptFault
    → (before now : List ℕ) → Result (Unit {0}) RunFault → Type 0
ReportEnds IsText outcome before now (Ok done) =
    (text : List ℕ) × IsText text × Wrote before now text
ReportEnds IsText outcome before now (Err (run.Refused line reason)) =
    (outcome ≡ Err (Refused line reason)) × (now ≡ before)
ReportEnds IsText outcome before now (Err (run.Limit which)) =
    (outcome ≡ Err (Limit which)) × (now ≡ before)
ReportEnds IsText outcome before now (Err run.Write) = WrotePart IsText before now
ReportEnds IsText outcome before now (Err run.OutOfMemory) =
    (now ≡ before) ⊎ WrotePart IsText before now

-- how the run of a script ends
abbrev pub RunEnds : Script → (before now : List ℕ) → Result (Unit {0}) RunFault
    → Type 0
RunEnds script before now end = ReportEnds (IsReport script) (outcome_of script) before now end
