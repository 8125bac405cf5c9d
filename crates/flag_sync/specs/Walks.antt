-- The LSP IDs of a circuit's flags, in order (own).
use Rattle.std.specs.Prelude.{ℕ, Bool, ◌&&◌, not, List, [], ◌∷◌, slice_index, if◌then◌else◌}
use Rattle.isis_base.specs.declared.identifiers.LspId.{LspId}
use Rattle.isis_base.specs.Identifiers.{lsp_number}
use Rattle.model_router.specs.Sets.{has}
use Rattle.model_router.specs.Cells.{Cell}
use Rattle.flag_sync.specs.declared.deed.Deed.{Deed}
use Rattle.flag_sync.specs.declared.flag_row.FlagRow.{FlagRow}
use Rattle.flag_sync.specs.FlagRows.{done}

-- whether SRM stands and waits no more
abbrev pub row_due : ℕ → FlagRow → Bool
row_due place row =
    has row.srm place
    && not (has (slice_index row.waits 0) place)
    && not (has (slice_index row.waits 1) place)
    && not (has (slice_index row.waits 2) place)

-- a row after a deed where SRM is due on its circuit
abbrev pub done_due : Deed → FlagRow → FlagRow
done_due deed row = if row_due deed.place row then done deed row else row

abbrev pub due_of : ℕ → List (LspId × FlagRow) → List LspId
due_of place [] = []
due_of place (pair ∷ rows) =
    if row_due place pair.1 then pair.0 ∷ due_of place rows else due_of place rows

abbrev pub owed_of : ℕ → List (LspId × FlagRow) → List LspId
owed_of place [] = []
owed_of place (pair ∷ rows) =
    if has pair.1.ssn place then pair.0 ∷ owed_of place rows else owed_of place rows

abbrev pub numbers_of : List LspId → List ℕ
numbers_of [] = []
numbers_of (id ∷ ids) = lsp_number id ∷ numbers_of ids

-- the numbers of the LSP IDs whose cells pass a test
abbrev pub ids_where : (Cell → Bool) → List (ℕ × Cell) → List ℕ
ids_where test [] = []
ids_where test (pair ∷ cells) =
    if test pair.1 then pair.0 ∷ ids_where test cells else ids_where test cells
