use Rattle.std.proofs.Common.{◌≡◌, ◌++◌, map, drop}
use Rattle.lsp_view.specs.Views.{row_from}
use Rattle.lsp_view.proofs.graph.add_items_of.Given as goal

-- the rows so far, and those of what is left
abbrev pub invariant-loop-item : goal.invariant-loop-item
invariant-loop-item l =
    l.rows.items ++ map (row_from l.node) (drop l.item-index l.items)
    ≡ l.fn.rows.items ++ map (row_from l.node) l.items
