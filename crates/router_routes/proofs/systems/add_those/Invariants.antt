use Rattle.std.proofs.Common.{◌≡◌, ◌++◌}
use Rattle.std.specs.List.{flat_map}
use Rattle.spf_tree.specs.Distances.{cost_at}
use Rattle.lsp_view.specs.Lsps.{entries_in}
use Rattle.router_routes.specs.Told.{told_in}
use Rattle.router_routes.specs.Moved.{is_one, told_by_nodes}
use Rattle.router_routes.specs.Candidates.{reached_by}
use Rattle.router_routes.proofs.systems.add_those.Given as goal

-- the systems so far, and those of what is left
abbrev pub invariant-loop-id : goal.invariant-loop-id
invariant-loop-id l =
    let reach = reached_by (cost_at l.distances) l.root in
    l.list.items ++ flat_map reach (told_by_nodes (is_one l.there l.nodes) (told_in l.id-iterator))
    ≡ l.fn.list.items ++ flat_map reach (told_by_nodes (is_one l.there l.nodes) (told_in (entries_in l.fn.lsps)))
