-- The timeline of a script, or why there is none (own).
use Rattle.std.specs.Prelude.{◌≡◌, ℕ, false, List, map, Result, Ok, Err}
use Rattle.std.specs.List.{AllByRecursion}
use Rattle.isis_edge.specs.Told.{Wrote}
use Rattle.lab_script.specs.declared.reason.ScriptFault.{ScriptFault}
use Rattle.lab_script.specs.declared.reason.ScriptFault.TheVariants as refused
use Rattle.lab_script.specs.declared.script.Script.{Script}
use Rattle.lab_script.specs.declared.script.Script.TheVariants.{Keys, Lab}
use Rattle.lab_script.specs.Scripts.{is_lab_script}
use Rattle.lab_script.specs.LabScripts.{LabScript}
use Rattle.lab_text.specs.LabReports.{lab_outcome}
use Rattle.lab_text.specs.Runs.{outcome_of, WrotePart}
use Rattle.walk_text.specs.declared.fault.WalkFault.{WalkFault}
use Rattle.walk_text.specs.declared.fault.WalkFault.TheVariants as failed
use Rattle.walk_text.specs.declared.reason.WalkReason.{WalkReason}
use Rattle.walk_text.specs.declared.reason.WalkReason.TheVariants as walk
use Rattle.timeline_text.specs.declared.tally.Tally.{Tally}
use Rattle.timeline_text.specs.Moments.{Moment, moments_of}
use Rattle.timeline_text.specs.Tallies.{IsTally}
use Rattle.timeline_text.specs.TimelineText.{timeline_text}

-- ---- a timeline

-- a text is that of the moments of a lab script, with what is counted at each
pub record IsTimelineOf (script : LabScript) (address : ℕ) (text : List ℕ) : Type 0 where
  pub pairs : List (Moment × Tally)
  pub moments : moments_of script ≡ Ok (map (λ (pair : Moment × Tally). pair.0) pairs)
  pub tallies : AllByRecursion (λ (pair : Moment × Tally). IsTally address pair.0 pair.1) pairs
  pub text_is : text ≡ timeline_text pairs

-- a keys script has none
abbrev pub IsTimelineText : Script → ℕ → List ℕ → Type 0
IsTimelineText (Keys script) address text = ⊥
IsTimelineText (Lab script) address text = IsTimelineOf script address text

abbrev pub IsNoTimeline : Script → WalkReason → Type 0
IsNoTimeline script reason = (reason ≡ walk.Keys) × (is_lab_script script ≡ false)

-- ---- answers

-- a lab script has this timeline, or its run comes to this fault
abbrev pub Times : LabScript → ℕ → Result (List ℕ) ScriptFault → Type 0
Times script address (Ok text) = IsTimelineOf script address text
Times script address (Err (refused.Refused line reason)) =
    lab_outcome script ≡ Err (refused.Refused line reason)
Times script address (Err (refused.Limit which)) = lab_outcome script ≡ Err (refused.Limit which)
Times script address (Err refused.OutOfMemory) = Unit {0}

-- the timeline of a script was found, or there is none for this cause; nothing is written, so no write
-- fails
abbrev pub Finds : Script → ℕ → Result (List ℕ) WalkFault → Type 0
Finds script address (Ok text) = IsTimelineText script address text
Finds script address (Err (failed.Refused line reason)) =
    outcome_of script ≡ Err (refused.Refused line reason)
Finds script address (Err (failed.Limit which)) = outcome_of script ≡ Err (refused.Limit which)
Finds script address (Err (failed.NoWalk reason)) = IsNoTimeline script reason
Finds script address (Err failed.Write) = ⊥
Finds script address (Err failed.OutOfMemory) = Unit {0}

-- how the writing of a timeline ends: the sink, before and now, holds the whole text more, a first part
-- of it where a write failed, or no more than before
abbrev pub TimelineEnds : Script → ℕ → (before now : List ℕ) → Result (Unit {0}) WalkFault → Type 0
TimelineEnds script address before now (Ok done) =
    (text : List ℕ) × IsTimelineText script address text × Wrote before now text
TimelineEnds script address before now (Err (failed.Refused line reason)) =
    (outcome_of script ≡ Err (refused.Refused line reason)) × (now ≡ before)
TimelineEnds script address before now (Err (failed.Limit which)) =
    (outcome_of script ≡ Err (refused.Limit which)) × (now ≡ before)
TimelineEnds script address before now (Err (failed.NoWalk reason)) =
    IsNoTimeline script reason × (now ≡ before)
TimelineEnds script address before now (Err failed.Write) =
    WrotePart (IsTimelineText script address) before now
TimelineEnds script address before now (Err failed.OutOfMemory) = now ≡ before
