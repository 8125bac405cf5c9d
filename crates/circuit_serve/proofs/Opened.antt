-- Ports opened one after another.
use Rattle.std.proofs.Common.{◌≡◌, ◌≤◌, ℕ, suc, ◌+◌, List, [], ◌∷◌, ◌++◌, map, length, refl, ap, ◌∙◌, arith}
use Rattle.isis_edge.specs.Faults.{Rose}
use Rattle.daemon_edge.specs.declared.place.CircuitPlace.{CircuitPlace}
use Rattle.daemon_edge.specs.Closings.{opened_at}
use Rattle.circuit_serve.specs.Openings.{openings}

-- one place more
pub openings_more : (c : ℕ) (places : List CircuitPlace) (place : CircuitPlace) → openings c (places ++ place ∷ []) ≡ openings c places ++ opened_at (c + length places) place ∷ []
openings_more c [] place = ap (λ n. opened_at n place ∷ []) (omega arith)
openings_more c (x ∷ places) place =
    let e : (c + 1) + length places ≡ c + suc (length places) = omega arith in
    ap (λ z. opened_at c x ∷ z) (openings_more (c + 1) places place ∙ ap (λ n. openings (c + 1) places ++ opened_at n place ∷ []) e)

pub map_more : {A B : Type 0} (f : A → B) (xs : List A) (x : A) → map f (xs ++ x ∷ []) ≡ map f xs ++ f x ∷ []
map_more f [] x = refl
map_more f (y ∷ xs) x = ap (λ z. f y ∷ z) (map_more f xs x)

-- a count that rose later rose
pub rose_later : (a b c : ℕ) → a ≤ b → Rose b c → Rose a c
rose_later a b c le rose = omega (arith, le, rose)
