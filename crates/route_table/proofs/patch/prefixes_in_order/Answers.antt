use Rattle.std.proofs.Common.{◌≡◌, rules}
use Rattle.std.proofs.lemmas.Fn.{always_returns_same}
use Rattle.std.proofs.lemmas.List.Sorted.{Contains-permutation, IsPermutation-sym}
use Rattle.route_table.specs.Ranks.{prefix_number}
use Rattle.route_table.proofs.FirstLemmas.{prefixes-are}
use Rattle.route_table.proofs.patch.prefixes_in_order.Goals as goal

pub returns-clause-order : goal.returns-clause-order
returns-clause-order c =
    prefixes-are _ (c.sort_unstable_by_key.ensures.sorted prefix_number (always_returns_same _ (λ a r. r ≡ prefix_number a.0.now) _ (λ a r q k. search rules)))

pub returns-clause-same : goal.returns-clause-same
returns-clause-same c = λ n. (
  (λ l. (l.0, Contains-permutation _ _ l.0 c.sort_unstable_by_key.ensures.permutation l.1, l.2)),
  (λ l. (l.0, Contains-permutation _ _ l.0 (IsPermutation-sym _ _ c.sort_unstable_by_key.ensures.permutation) l.1, l.2)),
)
