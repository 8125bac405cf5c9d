-- The lines of a text, and the text of lines (own).
use Rattle.std.specs.Prelude.{◌≡◌, ℕ, ◌+◌, ◌==◌, false, List, [], ◌∷◌, ◌++◌, length, codes, Option, Some, None, if◌then◌else◌}
use Rattle.std.specs.Borrow.{Bor}
use Rattle.std.specs.List.{AllByRecursion}
use Rattle.line_cuts.specs.Words.{lines_of}
use Rattle.journal_text.specs.Journals.{is_end}

-- all lines, where behind the last LF stands none
unfoldable pub whole_lines : List (List ℕ) → List (List ℕ)
whole_lines [] = []
whole_lines (line ∷ lines) = if is_end line lines then [] else line ∷ whole_lines lines

-- the lines of a text, which LF ends; the last LF may be wanting
abbrev pub lines_in : List ℕ → List (List ℕ)
lines_in text = whole_lines (lines_of text)

-- a line has no LF
abbrev pub IsUnbroken : List ℕ → Type 0
IsUnbroken line = AllByRecursion (λ byte. (byte == 10) ≡ false) line

-- lines as a text, LF behind each
abbrev pub text_of : List (List ℕ) → List ℕ
text_of [] = []
text_of (line ∷ lines) = line ++ (codes "\n" ++ text_of lines)

-- ---- lines that are left

-- the lines that are left of a text, and the number of the first of them, counted from 1
pub record Left : Type 0 where
  pub number : ℕ
  pub lines : List (List ℕ)

-- all lines of a text
abbrev pub all_of : List ℕ → Left
all_of text = record { number = 1; lines = lines_in text }

-- those behind the next one
abbrev pub behind_next : Left → List (List ℕ) → Left
behind_next left lines = record { number = left.number + 1; lines = lines }

-- how many octets are left to read, with one for the end
abbrev pub size_left : Option (Bor (List ℕ)) → ℕ
size_left None = 0
size_left (Some rest) = length rest.now + 1
