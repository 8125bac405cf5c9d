use Rattle.std.proofs.Common.{◌≡◌, ◌++◌, map, drop}
use Rattle.isis_base.specs.declared.identifiers.SystemId.{SystemId}
use Rattle.std.proofs.Common.{ℕ}
use Rattle.lsp_view.specs.Views.{own_node, lead_of, areas_at}
use Rattle.router_routes.specs.Moved.{told_of}
use Rattle.router_routes.proofs.systems.is_attached.Given as goal

-- the lists so far, and those of what is left
abbrev pub invariant-loop-reached : goal.invariant-loop-reached
invariant-loop-reached l =
    let areas = λ (s : SystemId × ℕ). areas_at (lead_of (told_of l.told) (own_node s.0)) in
    map (λ list. list.items) l.lists.items ++ map areas (drop l.reached-index l.systems) ≡ map areas l.systems
