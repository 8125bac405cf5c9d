-- How many LSP IDs are excepted on a link (own).
use Rattle.std.specs.Prelude.{ℕ, ◌+◌, List, [], ◌∷◌, length, nat_lt, Some, None, if◌then◌else◌}
use Rattle.model_router.specs.Cells.{Cell}
use Rattle.model_router.specs.Books.{Book}
use Rattle.model_router.specs.LetGos.{LetGo, contains}

-- the LSP IDs of which a book holds a key; an empty entry, of rank 0, has none
abbrev pub ids_of : List (ℕ × Cell) → List ℕ
ids_of [] = []
ids_of (pair ∷ cells) =
    if nat_lt 0 pair.1.rank then pair.0 ∷ ids_of cells else ids_of cells

-- how many of these another list doesn't have
abbrev pub count_beyond : List ℕ → List ℕ → ℕ
count_beyond others [] = 0
count_beyond others (id ∷ ids) =
    (if contains others id then 0 else 1) + count_beyond others ids

-- how many different LSP IDs are in two lists, neither of which has one twice
abbrev pub count_either : List ℕ → List ℕ → ℕ
count_either ids others = length ids + count_beyond ids others

-- how many LSP IDs were let go by either end, where neither let all go; and else of how many LSP IDs
-- either end holds a key
abbrev pub excepted_of : LetGo → LetGo → Book → Book → ℕ
excepted_of None other a b = count_either (ids_of a.cells) (ids_of b.cells)
excepted_of (Some gone) None a b = count_either (ids_of a.cells) (ids_of b.cells)
excepted_of (Some gone) (Some other) a b = count_either gone other
