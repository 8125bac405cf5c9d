use Rattle.std.proofs.Common.{◌≡◌, ◌++◌, filter, drop}
use Rattle.lsp_view.specs.Views.{is_reachable}
use Rattle.lsp_view.proofs.systems.add_reachable.Given as goal

-- the prefixes so far, and those of what is left
abbrev pub invariant-loop-item : goal.invariant-loop-item
invariant-loop-item l =
    l.items.items ++ filter is_reachable (drop l.item-index l.listed)
    ≡ l.fn.items.items ++ filter is_reachable l.listed
