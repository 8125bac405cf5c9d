-- A book as contracts see it, and as the definitions see it: entries and rows of flags side by
-- side (ISO 10589 7.3.15).
use Rattle.std.specs.Prelude.{◌≡◌, ℕ, ◌+◌, ◌<◌, ◌≤◌, ◌⊎◌, List, [], ◌∷◌, length, None, IsSome}
use Rattle.isis_base.specs.declared.identifiers.LspId.{LspId}
use Rattle.isis_base.specs.Identifiers.{lsp_number}
use Rattle.model_router.specs.Cells.{Cell}
use Rattle.model_router.specs.Books.{Book}
use Rattle.lsp_store.specs.declared.entry.Entry.{Entry}
use Rattle.lsp_store.specs.Maps.{RisesFrom, find}
use Rattle.lsp_store.specs.Databases.{Database}
use Rattle.flag_sync.specs.declared.flag_row.FlagRow.{FlagRow}
use Rattle.flag_sync.specs.FlagRows.{cell_of}
use Rattle.flag_sync.specs.Entries.{AllHaveHeaders}

-- the database, the rows of flags, the circuits that are open for the level, those that are
-- point-to-point, and the number of circuits
pub record BookState : Type 0 where
  pub store : Database
  pub rows : List (LspId × FlagRow)
  pub opened : ℕ
  pub points : ℕ
  pub circuits : ℕ

-- a database without entries
abbrev pub no_entries : Database
no_entries = record { entries = []; spare = 0; changes = 0 }

-- entries and rows of the same LSP IDs, as cells
abbrev pub cells_of : List (LspId × Entry) → List (LspId × FlagRow) → List (ℕ × Cell)
cells_of [] rows = []
cells_of (entry ∷ entries) [] = []
cells_of (entry ∷ entries) (row ∷ rows) =
    (lsp_number entry.0, cell_of entry.1 row.1) ∷ cells_of entries rows

-- the book of the definitions
abbrev pub book_of : BookState → Book
book_of state = record {
  cells = cells_of state.store.entries state.rows;
  opened = state.opened;
  p2p = state.points;
  changes = state.store.changes;
}

-- entries and rows have the same LSP IDs, in one order
abbrev pub AreBeside : List (LspId × Entry) → List (LspId × FlagRow) → Type 0
AreBeside [] [] = Unit {0}
AreBeside [] (row ∷ rows) = ⊥
AreBeside (entry ∷ entries) [] = ⊥
AreBeside (entry ∷ entries) (row ∷ rows) =
    (lsp_number entry.0 ≡ lsp_number row.0) × AreBeside entries rows

-- what a book keeps; room is taken for at least as many rows as for entries
pub record IsBook (entries : List (LspId × Entry)) (rows : List (LspId × FlagRow))
    (entries_spare rows_spare circuits : ℕ) : Type 0 where
  pub beside : AreBeside entries rows
  pub rises : RisesFrom 0 entries
  pub headed : AllHaveHeaders entries
  pub room : entries_spare ≤ rows_spare
  pub few : circuits ≤ 64

-- circuits, their kinds and which of them are open stay
pub record SameCircuits (old new : BookState) : Type 0 where
  pub opened : new.opened ≡ old.opened
  pub points : new.points ≡ old.points
  pub circuits : new.circuits ≡ old.circuits

-- at most one entry's room is used up, by an entry that is made, and no entry is given up
pub record KeepsRoom (old new : BookState) : Type 0 where
  pub spare : old.store.spare ≤ new.store.spare + 1
  pub held : length old.store.entries ≤ length new.store.entries
  pub made : old.store.spare + length old.store.entries
      ≤ new.store.spare + length new.store.entries

-- at most one entry's room is used up, and none where an entry of the number is held
pub record UsesRoom (old new : BookState) (n : ℕ) : Type 0 where
  pub spare : old.store.spare ≤ new.store.spare + 1
  pub held : IsSome (find old.store.entries n) → new.store.spare ≡ old.store.spare

-- no entry of a number is held, and 65,536 others are
abbrev pub IsFullFor : BookState → ℕ → Type 0
IsFullFor state n = (find state.store.entries n ≡ None) × (65536 ≤ length state.store.entries)

-- room is taken for an entry, or 65,536 are held
abbrev pub HasRoom : BookState → Type 0
HasRoom state = (0 < state.store.spare) ⊎ (65536 ≤ length state.store.entries)

-- a circuit's number
abbrev pub IsCircuit : ℕ → ℕ → Type 0
IsCircuit circuit circuits = (1 ≤ circuit) × (circuit ≤ circuits)
