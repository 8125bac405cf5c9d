-- What a journal tells: its entries, and the one whose append failed (own).
use Rattle.std.specs.Prelude.{ℕ, List, [], ◌∷◌, ◌++◌, Option, Some, None, Result, Ok, Err}
use Rattle.isis_edge.specs.Told.{Wrote, WrotePrefix}
use Rattle.circuit_threads.specs.declared.entry.JournalEntry.{JournalEntry}
use Rattle.circuit_threads.specs.declared.entry.Note.{Note}
use Rattle.circuit_threads.specs.History.{appended, marked}
use Rattle.circuit_threads.specs.JournalText.{entry_text, entries_text}

-- the entries that were appended, and the one whose append failed, if one's did (own)
pub record Told : Type 0 where
  pub entries : List JournalEntry
  pub torn : Option JournalEntry

-- own
abbrev pub nothing_told : Told
nothing_told = record { entries = []; torn = None }

-- what is told after an append, before which none had failed (own)
abbrev pub told_after : {E : Type 0} → Told → JournalEntry → Result Unit E → Told
told_after told e (Ok done) = record told { entries = told.entries ++ e ∷ [] }
told_after told e (Err fault) = record told { torn = Some e }

-- what a journal tells of a history (own)
abbrev pub told_of : List Note → Told
told_of notes = record { entries = appended notes; torn = marked notes }

-- ---- a journal of text, by what was put into its sink at first and until now

-- behind that text, the line of the entry whose append failed is there in part, or nothing is (own)
abbrev pub WroteBehind : (before now text : List ℕ) → Option JournalEntry → Type 0
WroteBehind before now text None = Wrote before now text
WroteBehind before now text (Some e) =
    WrotePrefix (before ++ text) now (entry_text e)

-- the lines of the entries told were written (own)
abbrev pub WroteTold : (before now : List ℕ) → Told → Type 0
WroteTold before now told = WroteBehind before now (entries_text told.entries) told.torn
