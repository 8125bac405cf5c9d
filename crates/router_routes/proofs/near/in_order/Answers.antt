use Rattle.std.proofs.Common.{◌≡◌, rules}
use Rattle.std.proofs.lemmas.Fn.{always_returns_same}
use Rattle.std.proofs.lemmas.List.Sorted.{IsNonDecreasingBy-from_sort}
use Rattle.spf_tree.specs.Nodes.{node_number}
use Rattle.router_routes.proofs.near.in_order.Goals as goal

pub returns-clause-sorted : goal.returns-clause-sorted
returns-clause-sorted c =
    IsNonDecreasingBy-from_sort node_number _ (c.sort_unstable_by_key.ensures.sorted node_number (always_returns_same _ (λ a r. r ≡ node_number a.0.now) _ (λ a r q k. search rules)))
