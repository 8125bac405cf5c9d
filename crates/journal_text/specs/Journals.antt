-- What a text says as a journal (own).
use Rattle.std.specs.Prelude.{◌≡◌, ℕ, ◌+◌, Bool, true, false, List, [], ◌∷◌, Option, Some, None, codes, if◌then◌else◌}
use Rattle.std.specs.Str.{bytes_eq}
use Rattle.journal_text.specs.declared.entry.WovenEntry.{WovenEntry}
use Rattle.journal_text.specs.declared.fault.JournalFault.{JournalFault}
use Rattle.journal_text.specs.declared.fault.JournalFault.TheVariants.{Line, OutOfMemory}
use Rattle.journal_text.specs.Entries.{entry_of}
use Rattle.line_cuts.specs.Words.{words_of, lines_of}

-- what a text is: the entries of a journal, or the first line that is none of one, counted from 1
pub data Journal : Type 0 where
  Good : (entries : List WovenEntry) → Journal
  Faulty : (line : ℕ) → Journal

abbrev pub with_entry : WovenEntry → Journal → Journal
with_entry entry (Good entries) = Good (entry ∷ entries)
with_entry entry (Faulty line) = Faulty line

-- the entry of this number stands in the line behind that of the entry before, the first in line 2
abbrev pub or_faulty : ℕ → Option WovenEntry → Journal → Journal
or_faulty number None rest = Faulty (number + 1)
or_faulty number (Some entry) rest = with_entry entry rest

-- behind the last LF stands nothing
abbrev pub is_end : List ℕ → List (List ℕ) → Bool
is_end [] [] = true
is_end [] (next ∷ lines) = false
is_end (byte ∷ line) lines = false

-- the lines from that of the entry of this number on
unfoldable pub entries_from : ℕ → List (List ℕ) → Journal
entries_from number [] = Good []
entries_from number (line ∷ lines) =
    if is_end line lines then Good []
    else or_faulty number (entry_of number (words_of line)) (entries_from (number + 1) lines)

abbrev pub behind_head : List (List ℕ) → Journal
behind_head [] = Faulty 1
behind_head (head ∷ lines) =
    if bytes_eq head (codes "isis-journal 1") then entries_from 1 lines else Faulty 1

-- what a text says
abbrev pub journal_of : List ℕ → Journal
journal_of text = behind_head (lines_of text)

-- ---- faults

-- a text has this fault; of want of memory nothing is said
abbrev pub IsFaultOf : Journal → JournalFault → Type 0
IsFaultOf journal (Line line) = journal ≡ Faulty line
IsFaultOf journal OutOfMemory = Unit {0}

-- the line of the entry of this number, which says this, has this fault
abbrev pub IsLineFault : ℕ → Option WovenEntry → JournalFault → Type 0
IsLineFault number said (Line line) = (said ≡ None) × (line ≡ number + 1)
IsLineFault number said OutOfMemory = Unit {0}
