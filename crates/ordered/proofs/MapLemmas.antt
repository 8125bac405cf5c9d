-- What is found, put and erased at a place of a list in order.
use Rattle.std.proofs.Common.{◌≡◌, ℕ, zero, suc, ◌+◌, ◌<◌, ◌≤◌, true, false, Bool, eqb, nat_lt, List, [], ◌∷◌, length, get_or, set, Some, None, is_some, if◌then◌else◌, refl, ap, subst, arith}
use Rattle.std.specs.List.{insert, remove}
use Rattle.std.proofs.lemmas.List.Edits.{length-insert}
use Rattle.std.proofs.lemmas.Bool.Decides.{nat_tests}
use Rattle.model_router.specs.Maps.{find, put, erase}
use Rattle.model_router.specs.Sorted.{RisesFrom}
use Rattle.ordered.specs.Keyed.{keyed, AllAbove, IsPlace, IsGap}

-- by a test's two answers
pub choose : (P : Bool → Type 0) (t : Bool) → P true → P false → P t
choose P true a b = a
choose P false a b = b

-- ---- pairs that rise

pub rises-less : {V : Type 0} (least less : ℕ) (m : List (ℕ × V)) → less ≤ least → RisesFrom least m → RisesFrom less m
rises-less least less [] le r = tt
rises-less least less (p ∷ m) le r = (let h = r.0 in omega (arith, h, le), r.1)

pub find-above : {V : Type 0} (m : List (ℕ × V)) (least n : ℕ) → n < least → RisesFrom least m → find m n ≡ None
find-above [] least n lt r = refl
find-above (p ∷ m) least n lt r = let h = r.0 in grind (arith, nat_tests, h, lt, find-above m (p.0 + 1) n (omega (arith, h, lt)) r.1)

pub put-above : {V : Type 0} (m : List (ℕ × V)) (least n : ℕ) (v : V) → n < least → RisesFrom least m → put m n v ≡ (n, v) ∷ m
unfolding put
put-above [] least n v lt r = refl
put-above (p ∷ m) least n v lt r = let h = r.0 in grind (arith, nat_tests, h, lt)

pub erase-above : {V : Type 0} (m : List (ℕ × V)) (least n : ℕ) → n < least → RisesFrom least m → erase m n ≡ m
unfolding erase
erase-above [] least n lt r = refl
erase-above (p ∷ m) least n lt r = let h = r.0 in grind (arith, nat_tests, h, lt, erase-above m (p.0 + 1) n (omega (arith, h, lt)) r.1)

pub put-rises : {V : Type 0} (m : List (ℕ × V)) (least n : ℕ) (v : V) → least ≤ n → RisesFrom least m → RisesFrom least (put m n v)
unfolding put
put-rises [] least n v h r = (h, tt)
put-rises {V} (p ∷ m) least n v h r =
    choose (λ t. eqb p.0 n ≡ t → RisesFrom {V = V} least (if t then (n, v) ∷ m else (if nat_lt n p.0 then (n, v) ∷ p ∷ m else p ∷ put m n v))) (eqb p.0 n)
    (λ e. (h, let same : p.0 ≡ n = grind (arith, nat_tests) in subst (λ (k : ℕ). RisesFrom (k + 1) m) same r.1))
    (λ e. choose (λ t. nat_lt n p.0 ≡ t → RisesFrom {V = V} least (if t then (n, v) ∷ p ∷ m else p ∷ put m n v)) (nat_lt n p.0)
    (λ l. let below : n < p.0 = grind (arith, nat_tests) in (h, (omega (arith, below), r.1)))
    (λ l. (r.0, put-rises m (p.0 + 1) n v (grind (arith, nat_tests)) r.1)) refl) refl

pub erase-rises : {V : Type 0} (m : List (ℕ × V)) (least n : ℕ) → RisesFrom least m → RisesFrom least (erase m n)
unfolding erase
erase-rises [] least n r = tt
erase-rises {V} (p ∷ m) least n r =
    choose (λ t. RisesFrom {V = V} least (if t then erase m n else p ∷ erase m n)) (eqb p.0 n)
    (rises-less (p.0 + 1) least (erase m n) (let h = r.0 in omega (arith, h)) (erase-rises m (p.0 + 1) n r.1))
    (r.0, erase-rises m (p.0 + 1) n r.1)

pub length-put : {V : Type 0} (m : List (ℕ × V)) (least n : ℕ) (v : V) → RisesFrom least m → length (put m n v) ≡ (if is_some (find m n) then length m else length m + 1)
unfolding put
length-put [] least n v r = refl
length-put (p ∷ m) least n v r =
    let h = r.0 in
    grind (arith, nat_tests, h, find-above m (p.0 + 1) n, r.1, length-put m (p.0 + 1) n v r.1)

-- ---- items in a list

module _ {X : Type 0} (key : X → ℕ) where
  pub length-keyed : (xs : List X) → length (keyed key xs) ≡ length xs
  length-keyed [] = refl
  length-keyed (x ∷ xs) = ap suc (length-keyed xs)

  pub find-place : (xs : List X) (n i : ℕ) (d : X) → IsPlace key xs n i → find (keyed key xs) n ≡ Some (get_or xs i d)
  find-place [] n i d at = absurd (let h = at.inside in omega (arith, h))
  find-place (x ∷ xs) n zero d at = let h = at.here d in grind (arith, nat_tests, h)
  find-place (x ∷ xs) n (suc i) d at =
      let h = at.low.0 in
      let rest : IsPlace key xs n i = record { inside = (let k = at.inside in omega (arith, k)); low = at.low.1; here = at.here; high = at.high } in
      grind (arith, nat_tests, h, find-place xs n i d rest)

  pub put-place : (xs : List X) (n i : ℕ) (v : X) → n ≡ key v → IsPlace key xs n i → put (keyed key xs) n v ≡ keyed key (set xs i v)
  unfolding put
  put-place [] n i v e at = absurd (let h = at.inside in omega (arith, h))
  put-place (x ∷ xs) n zero v e at = let h = at.here x in grind (arith, nat_tests, h, e)
  put-place (x ∷ xs) n (suc i) v e at =
      let h = at.low.0 in
      let rest : IsPlace key xs n i = record { inside = (let k = at.inside in omega (arith, k)); low = at.low.1; here = at.here; high = at.high } in
      grind (arith, nat_tests, h, put-place xs n i v e rest)

  above-erased : (xs : List X) (n : ℕ) → AllAbove key n xs → erase (keyed key xs) n ≡ keyed key xs
  unfolding erase
  above-erased [] n a = refl
  above-erased (x ∷ xs) n a = let h = a.0 in grind (arith, nat_tests, h, above-erased xs n a.1)

  pub erase-place : (xs : List X) (n i : ℕ) → IsPlace key xs n i → erase (keyed key xs) n ≡ keyed key (remove xs i)
  unfolding erase
  erase-place [] n i at = absurd (let h = at.inside in omega (arith, h))
  erase-place (x ∷ xs) n zero at = let h = at.here x in grind (arith, nat_tests, h, above-erased xs n at.high)
  erase-place (x ∷ xs) n (suc i) at =
      let h = at.low.0 in
      let rest : IsPlace key xs n i = record { inside = (let k = at.inside in omega (arith, k)); low = at.low.1; here = at.here; high = at.high } in
      grind (arith, nat_tests, h, erase-place xs n i rest)

  above-none : (xs : List X) (n : ℕ) → AllAbove key n xs → find (keyed key xs) n ≡ None
  above-none [] n a = refl
  above-none (x ∷ xs) n a = let h = a.0 in grind (arith, nat_tests, h, above-none xs n a.1)

  pub find-gap : (xs : List X) (n i : ℕ) → IsGap key xs n i → find (keyed key xs) n ≡ None
  find-gap [] n i gap = refl
  find-gap (x ∷ xs) n zero gap = above-none (x ∷ xs) n gap.high
  find-gap (x ∷ xs) n (suc i) gap =
      let h = gap.low.0 in
      let rest : IsGap key xs n i = record { inside = (let k = gap.inside in omega (arith, k)); low = gap.low.1; high = gap.high } in
      grind (arith, nat_tests, h, find-gap xs n i rest)

  pub erase-gap : (xs : List X) (n i : ℕ) → IsGap key xs n i → erase (keyed key xs) n ≡ keyed key xs
  unfolding erase
  erase-gap [] n i gap = refl
  erase-gap (x ∷ xs) n zero gap = above-erased (x ∷ xs) n gap.high
  erase-gap (x ∷ xs) n (suc i) gap =
      let h = gap.low.0 in
      let rest : IsGap key xs n i = record { inside = (let k = gap.inside in omega (arith, k)); low = gap.low.1; high = gap.high } in
      grind (arith, nat_tests, h, erase-gap xs n i rest)

  pub put-gap : (xs : List X) (n i : ℕ) (v : X) → n ≡ key v → IsGap key xs n i → put (keyed key xs) n v ≡ keyed key (insert xs i v)
  unfolding put
  put-gap [] n zero v e gap = ap (λ (k : ℕ). (k, v) ∷ []) e
  put-gap [] n (suc i) v e gap = ap (λ (k : ℕ). (k, v) ∷ []) e
  put-gap (x ∷ xs) n zero v e gap = let h = gap.high.0 in grind (arith, nat_tests, h, e)
  put-gap (x ∷ xs) n (suc i) v e gap =
      let h = gap.low.0 in
      let rest : IsGap key xs n i = record { inside = (let k = gap.inside in omega (arith, k)); low = gap.low.1; high = gap.high } in
      grind (arith, nat_tests, h, put-gap xs n i v e rest)

  -- where one more is put and fits, there is room
  pub gap-fits : (xs : List X) (n i : ℕ) (v : X) (space : ℕ) → n ≡ key v → IsGap key xs n i → length (put (keyed key xs) n v) ≤ space → length xs < space
  gap-fits xs n i v space e gap fits =
      let more = rw (put-gap xs n i v e gap) at fits in
      let len = length-insert xs i v gap.inside in
      let same = length-keyed (insert xs i v) in
      omega (arith, more, len, same)
