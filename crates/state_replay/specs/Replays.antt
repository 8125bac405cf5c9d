-- The replay of a journal's entries, as far as they are read (own).
use Rattle.std.specs.Prelude.{◌≡◌, ◌⊎◌, ℕ, ◌+◌, ◌<◌, Bool, true, List, [], ◌∷◌, length, map, Some, None}
use Rattle.model_router.specs.Routers.{Router}
use Rattle.router_core.specs.Givens.{given}
use Rattle.journal_text.specs.declared.entry.WovenEntry.{WovenEntry}
use Rattle.journal_text.specs.Entries as journal
use Rattle.line_cuts.specs.Words.{words_of}
use Rattle.line_source.specs.Lines.{IsTooLong, IsUncut}
use Rattle.weave_model.specs.Entries.{Entry, replay}
use Rattle.weave_model.specs.Faults.{AreGood, Fault, IsFaulty, OfEvent, OfReply}
use Rattle.weave_replay.specs.Entries.{entry_of}
use Rattle.state_replay.specs.declared.fault.StateFault.{StateFault}
use Rattle.state_replay.specs.declared.fault.StateFault.TheVariants as fault
use Rattle.state_replay.specs.Inputs.{Begins}

-- these lines say these entries, numbered from here on (own)
abbrev pub AreEntries : (number : ℕ) → List (List ℕ) → List WovenEntry → Type 0
AreEntries number [] [] = Unit {0}
AreEntries number [] (e ∷ es) = ⊥
AreEntries number (line ∷ lines) [] = ⊥
AreEntries number (line ∷ lines) (e ∷ es) =
    (journal.entry_of number (words_of line) ≡ Some e) × AreEntries (number + 1) lines es

-- entries as weave_model has them (own)
abbrev pub modelled : List WovenEntry → List Entry
modelled entries = map entry_of entries

-- So many entries begin a journal's text, and this stands behind them. Each is made by the machine, which answers what the entry
-- says, from one state of the router on to another (own).
pub record IsReplayed (before after : Router) (journal rest : List ℕ) (done : ℕ) : Type 0 where
  pub lines : List (List ℕ)
  pub begins : Begins journal lines rest
  pub entries : List WovenEntry
  pub read : AreEntries 1 lines entries
  pub counted : done ≡ length entries
  pub good : AreGood given before (modelled entries)
  pub after_is : after ≡ replay given before (modelled entries)

-- these are all entries that are asked for, or all that the input has: it is at its end, and LF ends no line more (own)
abbrev pub AreAll : (most done : ℕ) → (ended : Bool) → (rest : List ℕ) → Type 0
AreAll most done ended rest = (done ≡ most) ⊎ ((ended ≡ true) × IsUncut rest)

-- ---- faults

-- the next line of a text is such (own)
abbrev pub IfNext : List ℕ → (List ℕ → Type 0) → Type 0
IfNext text P = (line rest : List ℕ) × Begins text (line ∷ []) rest × P line

-- the entry of this number stands in a line, and has this fault (own)
abbrev pub HasFault : Router → ℕ → Fault → List ℕ → Type 0
HasFault r number what line = (e : WovenEntry)
    × (journal.entry_of number (words_of line) ≡ Some e) × IsFaulty given r (entry_of e) what

-- The line of the entry of this number ends the replay, where the first entry stands behind this line of the input: it is no
-- entry's, or its entry has a fault (own).
abbrev pub IsLineFault : (head number : ℕ) → Router → List ℕ → StateFault → Type 0
IsLineFault head number r line (fault.Form at) =
    (journal.entry_of number (words_of line) ≡ None) × (at ≡ head + number)
IsLineFault head number r line (fault.Event entry) =
    HasFault r number OfEvent line × (entry ≡ number)
IsLineFault head number r line (fault.Reply entry) =
    HasFault r number OfReply line × (entry ≡ number)
IsLineFault head number r line fault.TooLong = ⊥
IsLineFault head number r line fault.Read = ⊥
IsLineFault head number r line (fault.Head at) = ⊥
IsLineFault head number r line (fault.Config what key) = ⊥
IsLineFault head number r line fault.Write = ⊥
IsLineFault head number r line fault.OutOfMemory = ⊥

-- why the replay ends after so many entries: the next line is too long, or it ends the replay (own)
abbrev pub IsCause : (head done : ℕ) → Router → (rest : List ℕ) → StateFault → Type 0
IsCause head done r rest why = ((why ≡ fault.TooLong) × IsTooLong rest)
    ⊎ IfNext rest (λ next. IsLineFault head (done + 1) r next why)

-- a read failed, or memory ran out (own)
abbrev pub IsOutside : StateFault → Type 0
IsOutside why = (why ≡ fault.Read) ⊎ (why ≡ fault.OutOfMemory)

-- the replay of a journal's text ends so, before all entries that are asked for (own)
pub record IsStopped (before : Router) (journal : List ℕ) (head most : ℕ) (why : StateFault)
    : Type 0 where
  pub done : ℕ
  pub few : done < most
  pub r : Router
  pub rest : List ℕ
  pub replayed : IsReplayed before r journal rest done
  pub cause : IsCause head done r rest why
