use Rattle.std.proofs.Common.{◌≡◌, ◌*◌, [], ◌∷◌, drop, map}
use Rattle.model_router.specs.Numbers.{system_number}
use Rattle.adjacency.specs.Views.{neighbour_of}
use Rattle.lsp_fragments.specs.Entries.{node_and_metric}
use Rattle.router_wanted.specs.Parts.{NotFalling, put_ups}
use Rattle.router_wanted.specs.Views.{AreGood}
use Rattle.router_wanted.proofs.system_nodes.lan_nodes.Given as goal

-- what is left is put to those so far, which are in order
abbrev pub invariant-loop-neighbour : goal.invariant-loop-neighbour
invariant-loop-neighbour l =
    (put_ups (map node_and_metric l.list.items) (map neighbour_of (drop l.neighbour-index l.up))
    ≡ put_ups ((256 * system_number l.fn.system, 0) ∷ []) (map neighbour_of l.up))
    × (NotFalling 0 (map node_and_metric l.list.items) × AreGood l.list.items)
