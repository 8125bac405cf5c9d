-- What a binary search by key ends at.
use Rattle.std.proofs.Common.{◌≡◌, ℕ, zero, suc, ◌+◌, ◌<◌, ◌≤◌, List, [], ◌∷◌, length, take, drop, get_or, Result, Ok, Err, MatchResult, sym, ap, subst, arith}
use Rattle.std.specs.List.Sorted.{IsNonDecreasingBy, IsBinarySearchResult, IsSearchInRange}
use Rattle.std.specs.Ordering.{nat_cmp, ordering_index}
use Rattle.std.specs.declared.cmp.Ordering.TheVariants.{Less, Equal, Greater}
use Rattle.std.proofs.lemmas.Bool.Decides.{nat_tests}
use Rattle.std.proofs.lemmas.List.{get_or-take, get_or-drop, length-take-le, length-drop}
use Rattle.model_router.specs.Sorted.{RisesFrom}
use Rattle.ordered.specs.Keyed.{keyed, AllBelow, AllAbove, IsPlace, IsGap}

cmp-equal : (a b : ℕ) → nat_cmp a b ≡ Equal → a ≡ b
cmp-equal a b e = grind (arith, nat_tests)

cmp-less : (a b : ℕ) → nat_cmp a b ≡ Less → a < b
cmp-less a b e = grind (arith, nat_tests)

cmp-greater : (a b : ℕ) → nat_cmp a b ≡ Greater → b < a
cmp-greater a b e = grind (arith, nat_tests)

higher : (a b x : ℕ) → a ≤ b → ordering_index (nat_cmp a x) ≤ ordering_index (nat_cmp b x)
higher a b x le = grind (arith, nat_tests)

module _ {X : Type 0} (key : X → ℕ) where
  -- by place and by recursion
  below-each : (n : ℕ) (xs : List X) → ((k : ℕ) (d : X) → k < length xs → key (get_or xs k d) < n) → AllBelow key n xs
  below-each n [] h = tt
  below-each n (x ∷ xs) h = (h 0 x (omega arith), below-each n xs (λ k d lt. h (suc k) d (omega arith)))

  above-each : (n : ℕ) (xs : List X) → ((k : ℕ) (d : X) → k < length xs → n < key (get_or xs k d)) → AllAbove key n xs
  above-each n [] h = tt
  above-each n (x ∷ xs) h = (h 0 x (omega arith), above-each n xs (λ k d lt. h (suc k) d (omega arith)))

  least-at : (xs : List X) (least i : ℕ) (d : X) → RisesFrom least (keyed key xs) → i < length xs → least ≤ key (get_or xs i d)
  least-at [] least i d r lt = absurd (omega arith)
  least-at (x ∷ xs) least zero d r lt = r.0
  least-at (x ∷ xs) least (suc i) d r lt = let h = least-at xs (key x + 1) i d r.1 (omega arith) in let k = r.0 in omega (arith, h, k)

  strictly-at : (xs : List X) (least : ℕ) → RisesFrom least (keyed key xs) → (i j : ℕ) (d : X) → i < j → j < length xs → key (get_or xs i d) < key (get_or xs j d)
  strictly-at [] least r i j d ij lt = absurd (omega arith)
  strictly-at (x ∷ xs) least r i zero d ij lt = absurd (omega arith)
  strictly-at (x ∷ xs) least r zero (suc j) d ij lt = let h = least-at xs (key x + 1) j d r.1 (omega arith) in omega (arith, h)
  strictly-at (x ∷ xs) least r (suc i) (suc j) d ij lt = strictly-at xs (key x + 1) r.1 i j d (omega arith) (omega arith)

  rises-at : (xs : List X) (least : ℕ) → RisesFrom least (keyed key xs) → (i j : ℕ) (d : X) → i ≤ j → j < length xs → key (get_or xs i d) ≤ key (get_or xs j d)
  rises-at [] least r i j d ij lt = absurd (omega arith)
  rises-at (x ∷ xs) least r zero zero d ij lt = omega arith
  rises-at (x ∷ xs) least r (suc i) zero d ij lt = absurd (omega arith)
  rises-at (x ∷ xs) least r zero (suc j) d ij lt = let h = least-at xs (key x + 1) j d r.1 (omega arith) in omega (arith, h)
  rises-at (x ∷ xs) least r (suc i) (suc j) d ij lt = rises-at xs (key x + 1) r.1 i j d (omega arith) (omega arith)

  rising-tests : (xs : List X) (n : ℕ) → RisesFrom 0 (keyed key xs) → IsNonDecreasingBy (λ y. ordering_index (nat_cmp (key y) n)) xs
  rising-tests xs n r i j d le lt = higher _ _ n (rises-at xs 0 r i j d le lt)

  -- what a binary search by key answers
  pub searched : (xs : List X) (n : ℕ) (r : Result ℕ ℕ) → RisesFrom 0 (keyed key xs) → IsSearchInRange r (length xs) → IsBinarySearchResult (λ y. nat_cmp (key y) n) xs r → MatchResult r (λ i. IsPlace key xs n i) (λ i. IsGap key xs n i)
  searched xs n (Ok i) up lt h = record {
    inside = lt;
    here = λ d. cmp-equal _ _ (h d);
    low = below-each n (take i xs) (λ k d kt.
        let len = length-take-le i xs (omega (arith, lt)) in
        let inside : k < i = omega (arith, len, kt) in
        let same = cmp-equal (key (get_or xs i d)) n (h d) in
        subst (λ (m : ℕ). m < n) (sym (ap key (get_or-take i xs k d inside))) (let le = strictly-at xs 0 up k i d inside lt in omega (arith, le, same)));
    high = above-each n (drop (suc i) xs) (λ k d kt.
        let len = length-drop (suc i) xs in
        let same = cmp-equal (key (get_or xs i d)) n (h d) in
        subst (λ (m : ℕ). n < m) (sym (ap key (get_or-drop (suc i) xs k d))) (let le = strictly-at xs 0 up i (suc i + k) d (omega arith) (omega (arith, len, kt)) in omega (arith, le, same)));
  }
  searched xs n (Err i) up le h =
      let parted = h (rising-tests xs n up) in
      record {
        inside = le;
        low = below-each n (take i xs) (λ k d kt.
            let len = length-take-le i xs le in
            let inside : k < i = omega (arith, len, kt) in
            subst (λ (m : ℕ). m < n) (sym (ap key (get_or-take i xs k d inside))) (cmp-less (key (get_or xs k d)) n (parted.0 k d (omega arith) inside)));
        high = above-each n (drop i xs) (λ k d kt.
            let len = length-drop i xs in
            subst (λ (m : ℕ). n < m) (sym (ap key (get_or-drop i xs k d))) (cmp-greater (key (get_or xs (i + k) d)) n (parted.1 (i + k) d (omega arith) (omega (arith, len, kt)))));
      }
