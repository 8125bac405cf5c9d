-- Numbers in order, among which a binary search looks for one.
use Rattle.std.proofs.Common.{◌≡◌, ◌∙◌, ℕ, suc, ◌-◌, ◌<◌, ◌≤◌, ◌==◌, ◌||◌, Bool, true, false, List, [], ◌∷◌, length, get_or, map, Ok, Err, refl, sym, ap, subst, arith, inl, inr}
use Rattle.std.specs.List.{Contains}
use Rattle.std.specs.List.Sorted.{IsStrictlyIncreasing, IsBinarySearchResult}
use Rattle.std.specs.Ordering.{nat_cmp}
use Rattle.std.proofs.lemmas.Bool.{eqb-true, eq-eqb}
use Rattle.std.proofs.lemmas.List.Sorted.{searched}
use Rattle.std.proofs.lemmas.List.Folds.{list_any_at}
use Rattle.spf_tree.proofs.SearchLemmas.{contains_first, contains_rest, contains_cases, contains_none}
use Rattle.std.proofs.lemmas.List.{get_or_default}
use Rattle.spf_tree.proofs.PlaceLemmas.{no_place, nodes_rise}
use Rattle.route_table.specs.Patches.{is_moved}
use Rattle.router_routes.proofs.BesideLemmas.{any-in, in-any}

pub moved-there : (numbers : List ℕ) (n : ℕ) → is_moved numbers n ≡ true → Contains numbers n
moved-there numbers n any = let o = any-in (λ (m : ℕ). m == n) numbers any in subst (λ (m : ℕ). Contains numbers m) (eqb-true o.0 n o.2) o.1

pub there-moved : (numbers : List ℕ) (n : ℕ) → Contains numbers n → is_moved numbers n ≡ true
there-moved numbers n there = in-any (λ (m : ℕ). m == n) numbers n there (eq-eqb n n refl)

pub moved-none : (numbers : List ℕ) (n : ℕ) → is_moved numbers n ≡ false → Contains numbers n → ⊥
moved-none numbers n none there = (let e : true ≡ false = sym (there-moved numbers n there) ∙ none in cc)

pub found-one : (numbers : List ℕ) (n i : ℕ) → IsStrictlyIncreasing numbers → IsBinarySearchResult (λ y. nat_cmp y n) numbers (Ok i) → true ≡ is_moved numbers n
found-one numbers n i up r = let s = searched numbers n (Ok i) r (nodes_rise numbers up) in sym (list_any_at (λ (m : ℕ). m == n) numbers i 0 s.0 (eq-eqb _ n s.1))

none-step : (t : Bool) → (t ≡ true → ⊥) → false ≡ t
none-step true h = absurd (h refl)
none-step false h = refl

pub found-none : (numbers : List ℕ) (n i : ℕ) → IsStrictlyIncreasing numbers → IsBinarySearchResult (λ y. nat_cmp y n) numbers (Err i) → false ≡ is_moved numbers n
found-none numbers n i up r = none-step (is_moved numbers n) (λ any. no_place numbers n i up (moved-there numbers n any) r)

-- ---- numbers past the last, and before the second

pub none-of : (numbers : List ℕ) (n : ℕ) → length numbers ≡ 0 → false ≡ is_moved numbers n
none-of [] n e = refl
none-of (m ∷ numbers) n e = absurd (omega (arith, e))

pub none-above : (numbers : List ℕ) (n : ℕ) → IsStrictlyIncreasing numbers → get_or numbers (length numbers - 1) 0 < n → false ≡ is_moved numbers n
none-above numbers n up past =
    none-step (is_moved numbers n) (λ any.
    let h = moved-there numbers n any in
    let in' = h.1 in
    let is : get_or numbers h.0 0 ≡ n = get_or_default numbers h.0 0 n in' ∙ h.2 in
    let le = nodes_rise numbers up h.0 (length numbers - 1) (omega (arith, in')) (omega (arith, in')) in
    omega (arith, is, le, past))

or-none : (t : Bool) → t ≡ (t || false)
or-none true = refl
or-none false = refl

pub first-alone : (numbers : List ℕ) (n d : ℕ) → length numbers ≡ 1 → (get_or numbers 0 d == n) ≡ is_moved numbers n
first-alone [] n d e = absurd (omega (arith, e))
first-alone (m ∷ []) n d e = or-none (m == n)
first-alone (m ∷ k ∷ numbers) n d e = absurd (omega (arith, e))

pub first-below : (numbers : List ℕ) (n d : ℕ) → IsStrictlyIncreasing numbers → 1 < length numbers → n < get_or numbers 1 0 → (get_or numbers 0 d == n) ≡ is_moved numbers n
first-below [] n d up many below = absurd (omega (arith, many))
first-below (m ∷ numbers) n d up many below =
    or-none (m == n) ∙ ap (λ (t : Bool). (m == n) || t)
    (none-step (is_moved numbers n) (λ any.
    let h = moved-there numbers n any in
    let in' = h.1 in
    let is : get_or numbers h.0 0 ≡ n = get_or_default numbers h.0 0 n in' ∙ h.2 in
    let le : get_or (m ∷ numbers) 1 0 ≤ get_or numbers h.0 0 = nodes_rise (m ∷ numbers) up 1 (suc h.0) (omega arith) (omega (arith, in')) in
    omega (arith, is, le, below)))

-- ---- members of a map

pub in-map : {X Y : Type 0} (f : X → Y) (xs : List X) (x : X) → Contains xs x → Contains (map f xs) (f x)
in-map f [] x there = absurd (contains_none x there)
in-map f (z ∷ xs) x there =
    elim (contains_cases z x xs there) [
      | inl same ↦ subst (λ (w : _). Contains (f z ∷ map f xs) (f w)) same (contains_first (f z) (map f xs))
      | inr more ↦ contains_rest (f z) (f x) (map f xs) (in-map f xs x more)
    ]
