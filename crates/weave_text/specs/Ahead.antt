-- The part of a text ahead of its blocks: setup and change lines of a lab script (own).
use Rattle.std.specs.Prelude.{ℕ, ◌+◌, ◌||◌, Bool, false, List, [], ◌∷◌, drop, codes, Option, Some, None, if◌then◌else◌}
use Rattle.std.specs.List.{list_any, flat_map}
use Rattle.std.specs.Str.{bytes_eq}
use Rattle.line_cuts.specs.Words.{words_of}
use Rattle.lab_script.specs.Scripts.{is_skipped}
use Rattle.weave_text.specs.Lines.{Left, text_of}

-- the lines behind a head `isis-weave 1`; none where there is no such head
abbrev pub behind_head : Left → List (List ℕ) → Option Left
behind_head left [] = None
behind_head left (head ∷ lines) =
    if bytes_eq head (codes "isis-weave 1")
    then Some (record { number = left.number + 1; lines = lines }) else None

-- the first words of setup and change lines
abbrev pub layout_words : List (List ℕ)
layout_words =
    codes "router" ∷ codes "link" ∷ codes "lan" ∷ codes "key" ∷
    codes "prefix" ∷ codes "metric" ∷ codes "overload" ∷ []

abbrev pub is_layout_word : List ℕ → Bool
is_layout_word first = list_any (λ word. bytes_eq first word) layout_words

-- words of a setup or change line, by the first of them
abbrev pub is_layout : List (List ℕ) → Bool
is_layout [] = false
is_layout (first ∷ words) = is_layout_word first

-- a line that may stand ahead of blocks
abbrev pub is_ahead : List ℕ → Bool
is_ahead line = is_skipped line || is_layout (words_of line)

-- how many lines stand ahead of the first other line
unfoldable pub ahead_count : List (List ℕ) → ℕ
ahead_count [] = 0
ahead_count (line ∷ lines) = if is_ahead line then 1 + ahead_count lines else 0

-- what is left behind so many lines
abbrev pub behind_many : ℕ → Left → Left
behind_many count left =
    record { number = left.number + count; lines = drop count left.lines }

-- ---- as a lab script

-- the text of a lab script with these lines behind its head
abbrev pub script_text : List (List ℕ) → List ℕ
script_text lines = text_of (codes "isis-lab 1" ∷ lines)

-- a line, unless it is skipped
abbrev pub told_of : List ℕ → List (List ℕ)
told_of line = if is_skipped line then [] else line ∷ []

-- the lines that aren't skipped
abbrev pub told_in : List (List ℕ) → List (List ℕ)
told_in lines = flat_map told_of lines
