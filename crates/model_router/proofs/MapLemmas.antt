-- What is found in a map that was changed.
use Rattle.std.proofs.Common.{◌≡◌, ℕ, eqb, List, [], ◌∷◌, Option, Some, None, if◌then◌else◌, refl, arith}
use Rattle.std.proofs.lemmas.Bool.Decides.{nat_tests}
use Rattle.model_router.specs.Maps.{find, put, erase, set_at, each}
use Rattle.std.specs.Option.{option_map}

pub find-put : {V : Type 0} → (m : List (ℕ × V)) (k : ℕ) (v : V) (q : ℕ) → find (put m k v) q ≡ (if eqb k q then Some v else find m q)
unfolding put
find-put [] k v q = refl
find-put (p ∷ m) k v q = grind (arith, nat_tests, find-put m k v q)

pub find-erase : {V : Type 0} → (m : List (ℕ × V)) (k q : ℕ) → find (erase m k) q ≡ (if eqb k q then None else find m q)
unfolding erase
find-erase [] k q = grind (arith, nat_tests)
find-erase (p ∷ m) k q = grind (arith, nat_tests, find-erase m k q)

pub find-set_at : {V : Type 0} → (m : List (ℕ × V)) (k : ℕ) (v : Option V) (q : ℕ) → find (set_at m k v) q ≡ (if eqb k q then v else find m q)
find-set_at m k (Some v) q = find-put m k v q
find-set_at m k None q = find-erase m k q

pub find-each : {V W : Type 0} → (f : ℕ → V → W) (m : List (ℕ × V)) (q : ℕ) → find (each f m) q ≡ option_map (f q) (find m q)
unfolding each
find-each f [] q = refl
find-each f (p ∷ m) q = grind (arith, nat_tests, find-each f m q)
