-- A second of a level's entries (ISO 10589 7.3.16.3, 7.3.16.4; empty entries: own), and of what SRM
-- flags wait (ISO 10589 7.3.15.5).
use Rattle.std.specs.Prelude.{ℕ, ◌-◌, nat_le, Bool, ◌&&◌, List, [], ◌∷◌, Option, Some, None, if◌then◌else◌}
use Rattle.model_router.specs.Maps.{each}
use Rattle.model_router.specs.Ranks.{is_purge, is_live}
use Rattle.model_router.specs.Waits.{fallen}
use Rattle.model_router.specs.Cells.{Cell, flagged, purged}
use Rattle.model_router.specs.Books.{Book, cell_at, set_cell}
use Rattle.model_router.specs.LetGos.{let_go}
use Rattle.model_router.specs.Routers.{LevelState}

-- a second less of what each set SRM flag waits (7.3.15.5)
unfoldable pub wait_less : Book → Book
wait_less book =
    record book {
      cells = each
          (λ (_ : ℕ) (cell : Cell). record cell { waits = fallen cell.waits }) book.cells;
    }

-- a second less of a time that goes on (7.3.16.3)
abbrev pub less : Cell → Cell
less cell = record cell { left = cell.left - 1 }

-- a second of what is held of an LSP ID: at its end a live entry is purged, with SRM set and SSN
-- clear on all open circuits, and a purge and an empty entry are erased (7.3.16.4;
-- an empty one: own)
abbrev pub aged : ℕ → Cell → Option Cell
aged opened cell =
    if nat_le 2 cell.left then Some (less cell)
    else (if is_live cell.rank then Some (flagged (purged cell) opened 0) else None)

-- whether a second lets an LSP ID go: the end of its purge does (own)
abbrev pub is_let_go : Cell → Bool
is_let_go cell = nat_le cell.left 1 && is_purge cell.rank

-- a second of one LSP ID (7.3.16.3, 7.3.16.4)
abbrev pub age_cell : LevelState → ℕ → Option Cell → LevelState
age_cell state id None = state
age_cell state id (Some cell) = record state {
  book = set_cell state.book id (aged state.book.opened cell);
  gone = if is_let_go cell then let_go state.gone id else state.gone;
}

-- own
unfoldable pub age_one : LevelState → ℕ → LevelState
age_one state id = age_cell state id (cell_at state.book id)

-- a second of these LSP IDs, in order (own)
abbrev pub age_all : LevelState → List (ℕ × Cell) → LevelState
age_all state [] = state
age_all state (pair ∷ cells) = age_all (age_one state pair.0) cells

-- a second of a level's entries: live ones, purges that were there before it, and empty ones
-- (7.3.16.3, 7.3.16.4)
unfoldable pub age : LevelState → LevelState
age state = age_all state state.book.cells
