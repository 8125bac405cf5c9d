-- How the run of a walk ends (own).
use Rattle.std.specs.Prelude.{◌≡◌, ℕ, ◌≤◌, Bool, List, length, IfOk, Err, IsOk, IsOkAnd}
use Rattle.isis_base.specs.declared.prefix.Prefix.{Prefix}
use Rattle.isis_edge.specs.Told.{Wrote}
use Rattle.lab_script.specs.declared.reason.ScriptFault.{ScriptFault}
use Rattle.lab_script.specs.declared.reason.ScriptFault.TheVariants.{Refused, Limit}
use Rattle.lab_script.specs.Scripts.{script_of}
use Rattle.lab_text.specs.Runs.{WrotePart}
use Rattle.walk_text.specs.declared.reason.WalkReason.{WalkReason}
use Rattle.walk_text.specs.Walks.{HasRouter, IsWalkText, IsNoWalk}
use Rattle.isis_daemon.specs.declared.status.Status.{Status}
use Rattle.isis_daemon.specs.declared.status.Status.TheVariants as status
use Rattle.isis_daemon.specs.Runs.{input_limit, script_outcome, OnInput}

-- a text is the walk after the script that an input is read as, from the router of a name to a prefix
abbrev pub TellsWalk : List ℕ → Prefix → List ℕ → List ℕ → Type 0
TellsWalk name prefix input text =
    IsOkAnd (script_of input) (λ script. IsWalkText script name prefix text)

-- there is no such walk, for this reason
abbrev pub HasNoWalk : List ℕ → Prefix → List ℕ → WalkReason → Type 0
HasNoWalk name prefix input reason =
    IsOkAnd (script_of input) (λ script. IsNoWalk script name prefix reason)

-- a script is refused as by `lab`; one that can be read is a lab script with a router of the name, since
-- else it isn't run
abbrev pub IsRefusedScript : List ℕ → List ℕ → ScriptFault → Type 0
IsRefusedScript name input fault =
    (script_outcome input ≡ Err fault) × IfOk (script_of input) (λ script. HasRouter script name)

-- how the run of a walk on octets ends: the status has its cause in them; and the whole text was written, a prefix of it where
-- a write failed, or nothing
abbrev pub WalkEndsOn : List ℕ → Prefix → List ℕ → (put put' : List ℕ) → Status → Type 0
WalkEndsOn name prefix octets put put' status.Done =
    (text : List ℕ) × TellsWalk name prefix octets text × Wrote put put' text
WalkEndsOn name prefix octets put put' (status.ScriptRefused line reason) =
    IsRefusedScript name octets (Refused line reason) × (put' ≡ put)
WalkEndsOn name prefix octets put put' status.WriteFault =
    WrotePart (TellsWalk name prefix octets) put put'
WalkEndsOn name prefix octets put put' status.OutOfMemory = put' ≡ put
WalkEndsOn name prefix octets put put' (status.LabLimit which) =
    IsRefusedScript name octets (Limit which) × (put' ≡ put)
WalkEndsOn name prefix octets put put' (status.NoWalk reason) =
    HasNoWalk name prefix octets reason × (put' ≡ put)
WalkEndsOn name prefix octets put put' status.Usage = ⊥
WalkEndsOn name prefix octets put put' status.ReadFault = ⊥
WalkEndsOn name prefix octets put put' status.TooLong = ⊥
WalkEndsOn name prefix octets put put' (status.ConfigRefused what key) = ⊥
WalkEndsOn name prefix octets put put' status.NotStarted = ⊥
WalkEndsOn name prefix octets put put' (status.WeaveRefused journal entry reason) = ⊥
WalkEndsOn name prefix octets put put' status.ScheduleLimit = ⊥
WalkEndsOn name prefix octets put put' (status.NoLosses reason) = ⊥
WalkEndsOn name prefix octets put put' (status.Absent what) = ⊥

-- how the run of a walk ends, by what its input gave and its output was given, before and afterwards
abbrev pub WalkEnds : List ℕ → Prefix → (gave gave' : List ℕ) → (ended : Bool) → (put put' : List ℕ)
    → Status → Type 0
WalkEnds name prefix gave gave' ended put put' end =
    OnInput (λ octets. WalkEndsOn name prefix octets put put') gave gave' ended put put' end

-- an input after whose script there is a walk: its run is neither refused nor limited, and nothing is
-- told against a walk
pub record IsWalkable (name : List ℕ) (prefix : Prefix) (input : List ℕ) : Type 0 where
  pub fits : length input ≤ input_limit
  pub runs : IsOk (script_outcome input)
  pub walks : (reason : WalkReason) → HasNoWalk name prefix input reason → ⊥
