use Rattle.std.proofs.Common.{◌≡◌, ◌++◌, List, [], rules}
use Rattle.std.specs.List.{Contains}
use Rattle.route_table.specs.declared.candidate.Candidate.{Candidate}
use Rattle.std.proofs.lemmas.Fn.{always_returns_same}
use Rattle.std.proofs.lemmas.List.Sorted.{Contains-permutation, IsPermutation-sym}
use Rattle.route_table.proofs.OrderLemmas.{candidate_key, order_is}
use Rattle.route_table.proofs.order.in_order.Goals as goal

copied : (new old given : List Candidate) (x : Candidate) → old ≡ [] → new ≡ old ++ given → Contains given x → Contains new x
copied new old given x empty is h = rw (is, empty) h

copied_from : (new old given : List Candidate) (x : Candidate) → old ≡ [] → new ≡ old ++ given → Contains new x → Contains given x
copied_from new old given x empty is h = rw (is, empty) at h

pub returns-clause-order : goal.returns-clause-order
returns-clause-order c =
    order_is _ (c.sort_unstable_by_key.ensures.sorted candidate_key (always_returns_same _ (λ a r. r ≡ candidate_key a.0.now) _ (λ a r q k. search rules)))

pub returns-clause-all : goal.returns-clause-all
returns-clause-all c = λ x h. Contains-permutation _ _ x c.sort_unstable_by_key.ensures.permutation (copied _ _ _ x c.new-sorted.ensures.items c.in-Ok.ensures.items h)

pub returns-clause-none : goal.returns-clause-none
returns-clause-none c = λ x h. copied_from _ _ _ x c.new-sorted.ensures.items c.in-Ok.ensures.items (Contains-permutation _ _ x (IsPermutation-sym _ _ c.sort_unstable_by_key.ensures.permutation) h)
