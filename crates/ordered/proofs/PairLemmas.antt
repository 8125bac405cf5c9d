-- What is found, put and erased at a place of a list in order, seen as pairs of a key and a value of each item.
use Rattle.std.proofs.Common.{◌≡◌, ℕ, zero, suc, ◌+◌, List, [], ◌∷◌, get_or, set, Some, None, refl, ap, arith}
use Rattle.std.specs.List.{insert, remove}
use Rattle.std.proofs.lemmas.Bool.Decides.{nat_tests}
use Rattle.model_router.specs.Maps.{find, put, erase}
use Rattle.model_router.specs.Sorted.{RisesFrom}
use Rattle.ordered.specs.Keyed.{keyed, paired, AllAbove, IsPlace, IsGap}

module _ {X V : Type 0} (key : X → ℕ) (value : X → V) where
  -- the items themselves rise too
  pub keyed-rises : (xs : List X) (least : ℕ) → RisesFrom least (paired key value xs) → RisesFrom least (keyed key xs)
  keyed-rises [] least r = tt
  keyed-rises (x ∷ xs) least r = (r.0, keyed-rises xs (key x + 1) r.1)

  pub find-pair : (xs : List X) (n i : ℕ) (d : X) → IsPlace key xs n i → find (paired key value xs) n ≡ Some (value (get_or xs i d))
  find-pair [] n i d at = absurd (let h = at.inside in omega (arith, h))
  find-pair (x ∷ xs) n zero d at = let h = at.here d in grind (arith, nat_tests, h)
  find-pair (x ∷ xs) n (suc i) d at =
      let h = at.low.0 in
      let rest : IsPlace key xs n i = record { inside = (let k = at.inside in omega (arith, k)); low = at.low.1; here = at.here; high = at.high } in
      grind (arith, nat_tests, h, find-pair xs n i d rest)

  above-none : (xs : List X) (n : ℕ) → AllAbove key n xs → find (paired key value xs) n ≡ None
  above-none [] n a = refl
  above-none (x ∷ xs) n a = let h = a.0 in grind (arith, nat_tests, h, above-none xs n a.1)

  pub find-no_pair : (xs : List X) (n i : ℕ) → IsGap key xs n i → find (paired key value xs) n ≡ None
  find-no_pair [] n i gap = refl
  find-no_pair (x ∷ xs) n zero gap = above-none (x ∷ xs) n gap.high
  find-no_pair (x ∷ xs) n (suc i) gap =
      let h = gap.low.0 in
      let rest : IsGap key xs n i = record { inside = (let k = gap.inside in omega (arith, k)); low = gap.low.1; high = gap.high } in
      grind (arith, nat_tests, h, find-no_pair xs n i rest)

  pub put-pair : (xs : List X) (n i : ℕ) (v : X) → n ≡ key v → IsPlace key xs n i → put (paired key value xs) n (value v) ≡ paired key value (set xs i v)
  unfolding put
  put-pair [] n i v e at = absurd (let h = at.inside in omega (arith, h))
  put-pair (x ∷ xs) n zero v e at = let h = at.here x in grind (arith, nat_tests, h, e)
  put-pair (x ∷ xs) n (suc i) v e at =
      let h = at.low.0 in
      let rest : IsPlace key xs n i = record { inside = (let k = at.inside in omega (arith, k)); low = at.low.1; here = at.here; high = at.high } in
      grind (arith, nat_tests, h, put-pair xs n i v e rest)

  pub put-new_pair : (xs : List X) (n i : ℕ) (v : X) → n ≡ key v → IsGap key xs n i → put (paired key value xs) n (value v) ≡ paired key value (insert xs i v)
  unfolding put
  put-new_pair [] n zero v e gap = ap (λ (k : ℕ). (k, value v) ∷ []) e
  put-new_pair [] n (suc i) v e gap = ap (λ (k : ℕ). (k, value v) ∷ []) e
  put-new_pair (x ∷ xs) n zero v e gap = let h = gap.high.0 in grind (arith, nat_tests, h, e)
  put-new_pair (x ∷ xs) n (suc i) v e gap =
      let h = gap.low.0 in
      let rest : IsGap key xs n i = record { inside = (let k = gap.inside in omega (arith, k)); low = gap.low.1; high = gap.high } in
      grind (arith, nat_tests, h, put-new_pair xs n i v e rest)

  above-erased : (xs : List X) (n : ℕ) → AllAbove key n xs → erase (paired key value xs) n ≡ paired key value xs
  unfolding erase
  above-erased [] n a = refl
  above-erased (x ∷ xs) n a = let h = a.0 in grind (arith, nat_tests, h, above-erased xs n a.1)

  pub erase-pair : (xs : List X) (n i : ℕ) → IsPlace key xs n i → erase (paired key value xs) n ≡ paired key value (remove xs i)
  unfolding erase
  erase-pair [] n i at = absurd (let h = at.inside in omega (arith, h))
  erase-pair (x ∷ xs) n zero at = let h = at.here x in grind (arith, nat_tests, h, above-erased xs n at.high)
  erase-pair (x ∷ xs) n (suc i) at =
      let h = at.low.0 in
      let rest : IsPlace key xs n i = record { inside = (let k = at.inside in omega (arith, k)); low = at.low.1; here = at.here; high = at.high } in
      grind (arith, nat_tests, h, erase-pair xs n i rest)

  pub erase-no_pair : (xs : List X) (n i : ℕ) → IsGap key xs n i → erase (paired key value xs) n ≡ paired key value xs
  unfolding erase
  erase-no_pair [] n i gap = refl
  erase-no_pair (x ∷ xs) n zero gap = above-erased (x ∷ xs) n gap.high
  erase-no_pair (x ∷ xs) n (suc i) gap =
      let h = gap.low.0 in
      let rest : IsGap key xs n i = record { inside = (let k = gap.inside in omega (arith, k)); low = gap.low.1; high = gap.high } in
      grind (arith, nat_tests, h, erase-no_pair xs n i rest)
