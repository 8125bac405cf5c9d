use Rattle.std.proofs.Common.{◌≡◌, rules}
use Rattle.std.proofs.lemmas.Fn.{always_returns_same}
use Rattle.std.proofs.lemmas.List.Sorted.{Contains-permutation, IsPermutation-sym}
use Rattle.ipv6_reach.proofs.NumberLemmas6.{candidate6_key, order6_is}
use Rattle.ipv6_reach.proofs.numbered.in_order6.Goals as goal

pub returns-clause-order : goal.returns-clause-order
returns-clause-order c =
    order6_is _ (c.sort_unstable_by_key.ensures.sorted candidate6_key (always_returns_same _ (λ a r. r ≡ candidate6_key a.0.now) _ (λ a r q k. search rules)))

pub returns-clause-all : goal.returns-clause-all
returns-clause-all c = λ x h. Contains-permutation _ _ x c.sort_unstable_by_key.ensures.permutation h

pub returns-clause-none : goal.returns-clause-none
returns-clause-none c = λ x h. Contains-permutation _ _ x (IsPermutation-sym _ _ c.sort_unstable_by_key.ensures.permutation) h
