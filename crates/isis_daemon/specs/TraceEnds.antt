-- How the run of a trace ends (own).
use Rattle.std.specs.Prelude.{◌≡◌, ℕ, ◌≤◌, Bool, List, length, IsOk, IsOkAnd}
use Rattle.isis_edge.specs.Told.{Wrote}
use Rattle.lab_script.specs.declared.reason.ScriptFault.TheVariants.{Refused, Limit}
use Rattle.lab_script.specs.Scripts.{script_of}
use Rattle.lab_text.specs.Runs.{WrotePart}
use Rattle.walk_text.specs.declared.reason.WalkReason.{WalkReason}
use Rattle.trace_text.specs.Traces.{IsTraceText, IsNoTrace}
use Rattle.isis_daemon.specs.declared.status.Status.{Status}
use Rattle.isis_daemon.specs.declared.status.Status.TheVariants as status
use Rattle.isis_daemon.specs.Runs.{input_limit, script_outcome, OnInput}
use Rattle.isis_daemon.specs.WalkEnds.{IsRefusedScript}

-- a text is the trace after the script that an input is read as, from the router of a name to an address
abbrev pub TellsTrace : List ℕ → ℕ → List ℕ → List ℕ → Type 0
TellsTrace name address input text =
    IsOkAnd (script_of input) (λ script. IsTraceText script name address text)

-- there is no trace from the router of a name, for this reason
abbrev pub HasNoTrace : List ℕ → List ℕ → WalkReason → Type 0
HasNoTrace name input reason =
    IsOkAnd (script_of input) (λ script. IsNoTrace script name reason)

-- how the run of a trace on octets ends: the status has its cause in them; and the whole text was written, a prefix of it where
-- a write failed, or nothing
abbrev pub TraceEndsOn : List ℕ → ℕ → List ℕ → (put put' : List ℕ) → Status → Type 0
TraceEndsOn name address octets put put' status.Done =
    (text : List ℕ) × TellsTrace name address octets text × Wrote put put' text
TraceEndsOn name address octets put put' (status.ScriptRefused line reason) =
    IsRefusedScript name octets (Refused line reason) × (put' ≡ put)
TraceEndsOn name address octets put put' status.WriteFault =
    WrotePart (TellsTrace name address octets) put put'
TraceEndsOn name address octets put put' status.OutOfMemory = put' ≡ put
TraceEndsOn name address octets put put' (status.LabLimit which) =
    IsRefusedScript name octets (Limit which) × (put' ≡ put)
TraceEndsOn name address octets put put' (status.NoWalk reason) =
    HasNoTrace name octets reason × (put' ≡ put)
TraceEndsOn name address octets put put' status.Usage = ⊥
TraceEndsOn name address octets put put' status.ReadFault = ⊥
TraceEndsOn name address octets put put' status.TooLong = ⊥
TraceEndsOn name address octets put put' (status.ConfigRefused what key) = ⊥
TraceEndsOn name address octets put put' status.NotStarted = ⊥
TraceEndsOn name address octets put put' (status.WeaveRefused journal entry reason) = ⊥
TraceEndsOn name address octets put put' status.ScheduleLimit = ⊥
TraceEndsOn name address octets put put' (status.NoLosses reason) = ⊥
TraceEndsOn name address octets put put' (status.Absent what) = ⊥

-- how the run of a trace ends, by what its input gave and its output was given, before and afterwards
abbrev pub TraceEnds : List ℕ → ℕ → (gave gave' : List ℕ) → (ended : Bool) → (put put' : List ℕ)
    → Status → Type 0
TraceEnds name address gave gave' ended put put' end =
    OnInput (λ octets. TraceEndsOn name address octets put put') gave gave' ended put put' end

-- an input after whose script there is a trace: its run is neither refused nor limited, and it is a lab
-- script that has a router of the name
pub record IsTraceable (name : List ℕ) (input : List ℕ) : Type 0 where
  pub fits : length input ≤ input_limit
  pub runs : IsOk (script_outcome input)
  pub traces : (reason : WalkReason) → HasNoTrace name input reason → ⊥
