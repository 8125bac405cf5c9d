use Rattle.std.proofs.Common.{◌≡◌, ◌++◌, length}
use Rattle.flag_sync.specs.BookStates.{cells_of}
use Rattle.lab_report.specs.RouterLines.{lsp_lines}
use Rattle.lab_report.proofs.router_lines.add_lsps.Given as goal

-- what is written, and what is left
abbrev pub invariant-loop-id : goal.invariant-loop-id
invariant-loop-id l =
    l.page ++ lsp_lines l.name l.level (cells_of l.entries l.rows)
    ≡ l.fn.page ++ lsp_lines l.name l.level (cells_of l.book.store.entries l.book.rows)

abbrev pub decreases-loop-id : goal.decreases-loop-id
decreases-loop-id l = length l.entries
