use Rattle.std.proofs.Common.{◌≡◌, drop, map}
use Rattle.model_router.specs.LspPrefixes.{with_leaks}
use Rattle.model_router.specs.Sorted.{RisesFrom}
use Rattle.lsp_fragments.specs.Entries.{reach_pair}
use Rattle.router_wanted.specs.Views.{prefix_pair}
use Rattle.router_wanted.proofs.reaches.add_leaks.Given as goal

-- what is left is added to those so far, which are in order
abbrev pub invariant-loop-prefix : goal.invariant-loop-prefix
invariant-loop-prefix l =
    (with_leaks l.down (map reach_pair l.list.items) (map prefix_pair (drop l.prefix-index l.leaks))
    ≡ with_leaks l.down (map reach_pair l.initial.list.items) (map prefix_pair l.leaks))
    × RisesFrom 0 (map reach_pair l.list.items)
