-- How the run of a weaving ends (own).
use Rattle.std.specs.Prelude.{◌≡◌, ℕ, ◌≤◌, Bool, List, length, Err}
use Rattle.isis_edge.specs.Told.{Wrote}
use Rattle.lab_script.specs.declared.reason.ScriptFault.TheVariants.{Refused}
use Rattle.lab_text.specs.Runs.{WrotePart}
use Rattle.weave_text.specs.Reasons.{fault_for}
use Rattle.weave_text.specs.Weavings.{weaving_of}
use Rattle.weave_text.specs.Weaves.{TellsWeaving, HasNoWeaving, PassesLimit, IsWeavable}
use Rattle.isis_daemon.specs.declared.status.Status.{Status}
use Rattle.isis_daemon.specs.declared.status.Status.TheVariants as status
use Rattle.isis_daemon.specs.Runs.{input_limit, OnInput}

-- how the run of a weaving on octets ends: the status has its cause in them; and the whole lab script was written, a prefix of
-- it where a write failed, or nothing
abbrev pub WeaveEndsOn : List ℕ → (put put' : List ℕ) → Status → Type 0
WeaveEndsOn octets put put' status.Done =
    (text : List ℕ) × TellsWeaving (weaving_of octets) text × Wrote put put' text
WeaveEndsOn octets put put' (status.ScriptRefused line reason) =
    (weaving_of octets ≡ Err (Refused line reason)) × (put' ≡ put)
WeaveEndsOn octets put put' status.WriteFault =
    WrotePart (TellsWeaving (weaving_of octets)) put put'
WeaveEndsOn octets put put' status.OutOfMemory = put' ≡ put
WeaveEndsOn octets put put' (status.LabLimit which) =
    PassesLimit (weaving_of octets) which × (put' ≡ put)
WeaveEndsOn octets put put' (status.WeaveRefused journal entry reason) =
    HasNoWeaving (weaving_of octets) (fault_for journal entry reason) × (put' ≡ put)
WeaveEndsOn octets put put' status.Usage = ⊥
WeaveEndsOn octets put put' status.ReadFault = ⊥
WeaveEndsOn octets put put' status.TooLong = ⊥
WeaveEndsOn octets put put' (status.ConfigRefused what key) = ⊥
WeaveEndsOn octets put put' status.NotStarted = ⊥
WeaveEndsOn octets put put' (status.NoWalk reason) = ⊥
WeaveEndsOn octets put put' status.ScheduleLimit = ⊥
WeaveEndsOn octets put put' (status.NoLosses reason) = ⊥
WeaveEndsOn octets put put' (status.Absent what) = ⊥

-- how the run of a weaving ends, by what its input gave and its output was given, before and afterwards
abbrev pub WeaveEnds : (gave gave' : List ℕ) → (ended : Bool) → (put put' : List ℕ) → Status → Type 0
WeaveEnds gave gave' ended put put' end =
    OnInput (λ octets. WeaveEndsOn octets put put') gave gave' ended put put' end

-- an input that isn't too long, and whose journals have a weaving
abbrev pub CanBeWoven : List ℕ → Type 0
CanBeWoven input = (length input ≤ input_limit) × IsWeavable (weaving_of input)
