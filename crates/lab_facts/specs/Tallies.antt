-- What is counted of the cells of a book (own).
use Rattle.std.specs.Prelude.{ℕ, ◌&&◌, ◌||◌, not, nat_lt, Bool}
use Rattle.std.specs.Borrow.{Bor}
use Rattle.isis_base.specs.declared.identifiers.LspId.{LspId}
use Rattle.isis_base.specs.Identifiers.{lsp_number}
use Rattle.model_router.specs.Sets.{has}
use Rattle.model_router.specs.Cells.{Cell}
use Rattle.model_router.specs.LetGos.{LetGo, lets_go}
use Rattle.model_router.specs.Books.{Book, rank_at}
use Rattle.lsp_store.specs.declared.entry.Entry.{Entry}
use Rattle.flag_sync.specs.declared.flag_row.FlagRow.{FlagRow}
use Rattle.flag_sync.specs.FlagRows.{cell_of}

-- what an item of a walk shows
abbrev pub cell_item : LspId × Bor Entry × Bor FlagRow → ℕ × Cell
cell_item item = (lsp_number item.0, cell_of item.1.now item.2.now)

-- whether an LSP ID's SRM flag stands on a circuit (7.3.15)
abbrev pub is_flagged : ℕ → ℕ → Cell → Bool
is_flagged place id cell = has cell.srm place

-- whether an LSP ID that neither end let go has a greater rank here than in another book
abbrev pub is_ahead : LetGo → LetGo → Book → ℕ → Cell → Bool
is_ahead gone other_gone other id cell =
    not (lets_go gone id || lets_go other_gone id) && nat_lt (rank_at other id) cell.rank
