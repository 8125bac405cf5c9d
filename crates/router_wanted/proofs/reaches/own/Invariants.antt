use Rattle.std.proofs.Common.{◌≡◌, ◌++◌, drop, map}
use Rattle.model_router.specs.LspPrefixes.{own_reach}
use Rattle.lsp_fragments.specs.Entries.{reach_pair}
use Rattle.router_wanted.specs.Views.{prefix_pair}
use Rattle.router_wanted.proofs.reaches.own.Given as goal

-- those so far and those that are left are all
abbrev pub invariant-loop-prefix : goal.invariant-loop-prefix
invariant-loop-prefix l =
    map reach_pair l.list.items ++ own_reach (map prefix_pair (drop l.prefix-index l.prefixes))
    ≡ own_reach (map prefix_pair l.prefixes)
