use Rattle.std.proofs.lemmas.List.Filters.{dedup_is}
use Rattle.std.proofs.lemmas.List.Kept.{Contains-dedup_nat, Contains-from_dedup}
use Rattle.std.proofs.lemmas.List.Sorted.{Contains-permutation, IsPermutation-sym}
use Rattle.std.proofs.lemmas.Map.Keys.{IsStrictlyIncreasing-dedup}
use Rattle.router_routes.proofs.numbers.in_order.Goals as goal

pub returns-clause-rising : goal.returns-clause-rising
returns-clause-rising c = rw (dedup_is _ _ _ c.dedup.ensures.filtered) (IsStrictlyIncreasing-dedup _ c.sort_unstable.ensures.sorted)

pub returns-clause-all : goal.returns-clause-all
returns-clause-all c = λ node h. rw (dedup_is _ _ _ c.dedup.ensures.filtered) (Contains-dedup_nat _ node (Contains-permutation _ _ node c.sort_unstable.ensures.permutation h))

pub returns-clause-none : goal.returns-clause-none
returns-clause-none c = λ node h. Contains-permutation _ _ node (IsPermutation-sym _ _ c.sort_unstable.ensures.permutation) (Contains-from_dedup _ _ node (rw (dedup_is _ _ _ c.dedup.ensures.filtered) at h))
