-- A second less of all entries at once, and those that have no seconds left (ISO 10589 7.3.16.3;
-- the form: own).
use Rattle.std.specs.Prelude.{ℕ, nat_le, ◌==◌, ◌&&◌, List, [], ◌∷◌, Option, Some, None, if◌then◌else◌}
use Rattle.isis_base.specs.declared.identifiers.LspId.{LspId}
use Rattle.model_router.specs.Maps.{each}
use Rattle.model_router.specs.Cells.{Cell}
use Rattle.model_router.specs.Books.{Book}
use Rattle.model_router.specs.Ageing.{less}
use Rattle.lsp_store.specs.declared.entry.Entry.{Entry}

-- a second less of what each cell has left, where that isn't 0 (7.3.16.3)
abbrev pub less_left : Book → Book
less_left book =
    record book { cells = each (λ (_ : ℕ) (cell : Cell). less cell) book.cells }

-- the LSP IDs from one on whose cells have no seconds left, in order (own)
abbrev pub over_from : ℕ → List (ℕ × Cell) → List ℕ
over_from start [] = []
over_from start (pair ∷ cells) =
    if nat_le start pair.0 && pair.1.left == 0
    then pair.0 ∷ over_from start cells
    else over_from start cells

-- own
abbrev pub first_of : List ℕ → Option ℕ
first_of [] = None
first_of (n ∷ ns) = Some n

-- the LSP ID of the first entry that has no seconds left (own)
abbrev pub first_over : List (LspId × Entry) → Option LspId
first_over [] = None
first_over (pair ∷ entries) = if pair.1.left == 0 then Some pair.0 else first_over entries
