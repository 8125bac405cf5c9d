use Rattle.std.proofs.Common.{◌≡◌, ◌++◌}
use Rattle.std.specs.List.{flat_map}
use Rattle.lsp_store.specs.Maps.{between}
use Rattle.lsp_store.specs.Databases.{live_of}
use Rattle.lsp_view.specs.Lsps.{entries_in}
use Rattle.lsp_view.specs.Views.{number_of, own_node, reach_of}
use Rattle.lsp_view.proofs.lsps.Lsps.reach_into.Given as goal

-- the prefixes so far, and those of what is left
abbrev pub invariant-loop-entry : goal.invariant-loop-entry
invariant-loop-entry l =
    let node = own_node l.fn.system in
    l.items.items ++ flat_map reach_of (live_of l.entry-iterator)
    ≡ flat_map reach_of (live_of (between (number_of node 0) (number_of node 255) (entries_in l.self)))
