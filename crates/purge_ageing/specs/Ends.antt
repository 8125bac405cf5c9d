-- A second of a level as two steps: a second less for all entries at once, and the end of those
-- that have no seconds left (ISO 10589 7.3.16.3, 7.3.16.4; the form: own).
use Rattle.std.specs.Prelude.{ℕ, nat_lt, Bool, false, ◌||◌, List, [], ◌∷◌, Option, Some, None, if◌then◌else◌}
use Rattle.model_router.specs.Ranks.{is_live, is_purge}
use Rattle.model_router.specs.Cells.{Cell, flagged, purged}
use Rattle.model_router.specs.Books.{Book, cell_at, rank_at, set_cell}
use Rattle.model_router.specs.LetGos.{LetGo, let_go}
use Rattle.model_router.specs.Routers.{Issued, LevelState}

-- a level's database, own LSPs and let-go LSP IDs
abbrev pub state_of : Book → List (ℕ × Issued) → LetGo → LevelState
state_of book own gone = record { book = book; own = own; gone = gone }

-- what is held of an LSP ID after its entry's end (7.3.16.4)
abbrev pub ended : ℕ → Option Cell → Option Cell
ended opened None = None
ended opened (Some cell) =
    if is_live cell.rank then Some (flagged (purged cell) opened 0) else None

-- a level after the end of one LSP ID's entry
abbrev pub end_id : LevelState → ℕ → LevelState
end_id state n = record state {
  book = set_cell state.book n (ended state.book.opened (cell_at state.book n));
  gone = if is_purge (rank_at state.book n) then let_go state.gone n else state.gone;
}

-- after the end of these LSP IDs' entries, in order
abbrev pub end_all : LevelState → List ℕ → LevelState
end_all state [] = state
end_all state (n ∷ ns) = end_all (end_id state n) ns

-- whether some LSP ID of these has a key
abbrev pub some_keyed : Book → List ℕ → Bool
some_keyed book [] = false
some_keyed book (n ∷ ns) = nat_lt 0 (rank_at book n) || some_keyed book ns
