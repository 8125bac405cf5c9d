-- How the run of `state` ends (own).
use Rattle.std.specs.Prelude.{◌≡◌, ◌⊎◌, ℕ, Bool, List, Result, Ok, Err}
use Rattle.lab_script.specs.declared.reason.Reason.TheVariants as reason
use Rattle.weave_text.specs.declared.reason.WeaveReason.TheVariants as because
use Rattle.isis_daemon.specs.declared.status.Status.{Status}
use Rattle.isis_daemon.specs.declared.status.Status.TheVariants as status
use Rattle.state_replay.specs.declared.fault.StateFault.{StateFault}
use Rattle.state_replay.specs.declared.fault.StateFault.TheVariants as fault
use Rattle.state_replay.specs.Ends.{IsRefused, StateEnds}

-- what ends a run whose state wasn't written
abbrev pub state_status : StateFault → Status
state_status fault.Read = status.ReadFault
state_status fault.TooLong = status.TooLong
state_status (fault.Head line) = status.ScriptRefused line reason.Head
state_status (fault.Config what key) = status.ConfigRefused what key
state_status (fault.Form line) = status.ScriptRefused line reason.Form
state_status (fault.Event entry) = status.WeaveRefused 1 entry because.Event
state_status (fault.Reply entry) = status.WeaveRefused 1 entry because.Reply
state_status fault.Write = status.WriteFault
state_status fault.OutOfMemory = status.OutOfMemory

abbrev pub status_after : Result (Unit {0}) StateFault → Status
status_after (Ok done) = status.Done
status_after (Err why) = state_status why

-- the state of a configuration and a journal was written, or why it wasn't, and the status says which
pub record StateRan (boot most : ℕ) (gave gave' : List ℕ) (ended : Bool) (put put' : List ℕ) (end : Status) : Type 0 where
  pub answer : Result (Unit {0}) StateFault
  pub is : end ≡ status_after answer
  pub ends : StateEnds boot most gave gave' ended put put' answer

-- an input of which nothing but a failed read, or memory, stands against a state
abbrev pub HasState : (boot most : ℕ) → List ℕ → Bool → Type 0
HasState boot most input ended =
    (why : StateFault) → IsRefused boot most input ended why → (why ≡ fault.Read) ⊎ (why ≡ fault.OutOfMemory)
