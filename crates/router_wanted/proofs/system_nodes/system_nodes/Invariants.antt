use Rattle.std.proofs.Common.{◌≡◌, [], drop, map}
use Rattle.model_router.specs.LspNeighbours.{all_nodes}
use Rattle.lsp_fragments.specs.Entries.{node_and_metric}
use Rattle.router_wanted.specs.Lent.{config_of}
use Rattle.router_wanted.specs.Parts.{NotFalling}
use Rattle.router_wanted.specs.Views.{AreGood}
use Rattle.router_wanted.proofs.system_nodes.system_nodes.Given as goal

-- what is left is put to those so far, which are in order
abbrev pub invariant-loop-place : goal.invariant-loop-place
invariant-loop-place l =
    (all_nodes (config_of l.base) l.level l.place (drop l.place l.circuits) (map node_and_metric l.list.items)
    ≡ all_nodes (config_of l.base) l.level 0 l.circuits [])
    × (NotFalling 0 (map node_and_metric l.list.items) × AreGood l.list.items)
