-- How a state is written, or why it isn't (own).
use Rattle.std.specs.Prelude.{◌≡◌, ◌⊎◌, ℕ, ◌+◌, ◌<◌, ◌≤◌, Bool, true, List, length, Result, Ok, Err}
use Rattle.daemon_config.specs.Config.{config_of}
use Rattle.daemon_config.specs.declared.fault.ConfigFault.TheVariants.{Refused}
use Rattle.daemon_config.specs.declared.fault.ConfigKey.{ConfigKey}
use Rattle.daemon_config.specs.declared.fault.ConfigKind.{ConfigKind}
use Rattle.isis_edge.specs.Told.{Took, Wrote, WrotePrefix}
use Rattle.line_source.specs.Lines.{IsTooLong, IsUncut}
use Rattle.model_router.specs.Routers.{Router}
use Rattle.state_text.specs.States.{IsStateText}
use Rattle.state_replay.specs.declared.fault.StateFault.{StateFault}
use Rattle.state_replay.specs.declared.fault.StateFault.TheVariants as fault
use Rattle.state_replay.specs.Inputs.{IsBeforeHead, IsAtHead, IsOpened, with_ends}
use Rattle.state_replay.specs.Replays.{IsReplayed, AreAll, IsStopped}

-- A text is the state of a router after the entries that begin a journal's text, all of them or as many as are asked for. The
-- machine answers each as the entry says (own).
pub record IsStateAfter (first : Router) (most : ℕ) (journal : List ℕ) (ended : Bool) (text : List ℕ)
    : Type 0 where
  pub rest : List ℕ
  pub done : ℕ
  pub few : done ≤ most
  pub r : Router
  pub replayed : IsReplayed first r journal rest done
  pub all : AreAll most done ended rest
  pub is : IsStateText done r text

-- it is the state that an input comes to in this boot: of the router of its configuration, after the entries of its journal (own)
pub record IsStateOf (boot most : ℕ) (input : List ℕ) (ended : Bool) (text : List ℕ) : Type 0 where
  pub journal : List ℕ
  pub line : ℕ
  pub first : Router
  pub opened : IsOpened boot input journal line first
  pub after : IsStateAfter first most journal ended text

-- ---- faults

-- the input ends in this line, and no line before is a journal's head (own)
pub record IsHeadless (input : List ℕ) (ended : Bool) (line : ℕ) : Type 0 where
  pub front : List (List ℕ)
  pub rest : List ℕ
  pub before : IsBeforeHead input front rest
  pub last : IsUncut rest
  pub end : ended ≡ true
  pub counted : line ≡ length front + 1

-- before a journal's head, a line is too long, or all lines together are (own)
pub record IsLongFront (input : List ℕ) : Type 0 where
  pub front : List (List ℕ)
  pub rest : List ℕ
  pub before : IsBeforeHead input front rest
  pub long : IsTooLong rest ⊎ (16777216 < length (with_ends front))

-- the lines before a journal's head are refused as a configuration (own)
pub record IsConfigRefused (input : List ℕ) (what : ConfigKind) (key : ConfigKey) : Type 0 where
  pub front : List (List ℕ)
  pub journal : List ℕ
  pub at : IsAtHead input front journal
  pub says : config_of (with_ends front) ≡ Err (Refused what key)

-- the replay ends so (own)
pub record IsStoppedIn (boot most : ℕ) (input : List ℕ) (why : StateFault) : Type 0 where
  pub journal : List ℕ
  pub line : ℕ
  pub first : Router
  pub opened : IsOpened boot input journal line first
  pub stopped : IsStopped first journal line most why

-- Why an input comes to no state. Of a read that failed, and of memory that ran out, nothing is said here (own).
abbrev pub IsRefused : (boot most : ℕ) → (input : List ℕ) → (ended : Bool) → StateFault → Type 0
IsRefused boot most input ended fault.Read = Unit {0}
IsRefused boot most input ended fault.OutOfMemory = Unit {0}
IsRefused boot most input ended fault.Write = ⊥
IsRefused boot most input ended fault.TooLong =
    IsLongFront input ⊎ IsStoppedIn boot most input fault.TooLong
IsRefused boot most input ended (fault.Head line) = IsHeadless input ended line
IsRefused boot most input ended (fault.Config what key) = IsConfigRefused input what key
IsRefused boot most input ended (fault.Form line) = IsStoppedIn boot most input (fault.Form line)
IsRefused boot most input ended (fault.Event entry) =
    IsStoppedIn boot most input (fault.Event entry)
IsRefused boot most input ended (fault.Reply entry) =
    IsStoppedIn boot most input (fault.Reply entry)

-- ---- the whole

-- what an input gave meanwhile is such (own)
abbrev pub IfGave : (gave gave' : List ℕ) → (List ℕ → Type 0) → Type 0
IfGave gave gave' P = (octets : List ℕ) × Took gave gave' octets × P octets

-- How the writing of a state ends, where the input gave these octets: all of its text was written; or, where a write failed, a
-- prefix of it; or nothing, and the input comes to no state (own).
abbrev pub StateEndsOn : (boot most : ℕ) → (input : List ℕ) → (ended : Bool) → (put put' : List ℕ)
    → Result (Unit {0}) StateFault → Type 0
StateEndsOn boot most input ended put put' (Ok done) =
    (text : List ℕ) × IsStateOf boot most input ended text × Wrote put put' text
StateEndsOn boot most input ended put put' (Err why) =
    (IsRefused boot most input ended why × (put' ≡ put))
    ⊎ ((why ≡ fault.Write) × ((text : List ℕ) × IsStateOf boot most input ended text
    × WrotePrefix put put' text))

-- how the writing of a state ends, by what the input gave and the sink was given, before and afterwards (own)
abbrev pub StateEnds : (boot most : ℕ) → (gave gave' : List ℕ) → (ended : Bool) → (put put' : List ℕ)
    → Result (Unit {0}) StateFault → Type 0
StateEnds boot most gave gave' ended put put' end =
    IfGave gave gave' (λ input. StateEndsOn boot most input ended put put' end)
