-- The heap of offers.

use Rattle.std.proofs.Common.{◌≡◌, ◌≤◌, ℕ, List, [], ◌∷◌, false, map, arith}
use Rattle.std.specs.declared.cmp.Reverse.{Reverse}
use Rattle.std.specs.List.{All, AllByRecursion}
use Rattle.std.specs.Ordering.{nat_cmp, ordering_then, is_lt}
use Rattle.std.specs.BinaryHeap.{IsUpperBound}
use Rattle.std.proofs.lemmas.Bool.Decides.{nat_tests}
use Rattle.std.proofs.lemmas.List.Elements.{All-from_recursion}

no_less : (a b c d : ℕ) → is_lt (ordering_then (nat_cmp c a) (nat_cmp d b)) ≡ false → a ≤ c
no_less a b c d h = grind (arith, nat_tests)

each : (e : ℕ × ℕ) (items : List (Reverse (ℕ × ℕ))) → AllByRecursion (λ y. is_lt (ordering_then (nat_cmp y.0.0 e.0) (nat_cmp y.0.1 e.1)) ≡ false) items → AllByRecursion (λ (o : ℕ × ℕ). e.0 ≤ o.0) (map (λ (r : Reverse (ℕ × ℕ)). r.0) items)
each e [] h = tt
each e (r ∷ items) h = (no_less e.0 e.1 r.0.0 r.0.1 h.0, each e items h.1)

-- the offer that comes out costs no more than those that stay
pub least_offer : (e : ℕ × ℕ) (items : List (Reverse (ℕ × ℕ))) → IsUpperBound (λ x y. ordering_then (nat_cmp y.0.0 x.0.0) (nat_cmp y.0.1 x.0.1)) (record { 0 = e }) items → All (λ (o : ℕ × ℕ). e.0 ≤ o.0) (map (λ (r : Reverse (ℕ × ℕ)). r.0) items)
least_offer e items h = All-from_recursion (λ (o : ℕ × ℕ). e.0 ≤ o.0) (map (λ (r : Reverse (ℕ × ℕ)). r.0) items) (each e items h)
