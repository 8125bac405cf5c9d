-- Numbers of which none stands twice, in any order and sorted.
use Rattle.std.proofs.Common.{◌≡◌, ◌∙◌, ℕ, suc, ◌+◌, ◌<◌, ◌≤◌, List, [], ◌∷◌, length, get_or, cond, eqb, Bool, true, false, ◌&&◌, ◌||◌, not, refl, sym, ap, arith}
use Rattle.std.specs.List.{list_any, sum_by}
use Rattle.std.specs.List.Sorted.{IsPermutation, IsNonDecreasing, IsSorted}
use Rattle.std.specs.Ordering.{nat_cmp}
use Rattle.std.proofs.lemmas.Bool.{and_parts, and_from, eqb-true, eqb-false, eq-eqb, ne_eqb, not-true}
use Rattle.std.proofs.lemmas.List.Sums.{sum_by-cons}
use Rattle.std.proofs.lemmas.List.Sorted.{sum_by-IsPermutation, IsNonDecreasingBy-from_sort}
use Rattle.router_desk.specs.Limits.{are_distinct, are_apart}

-- ---- how often a number stands

abbrev one_if : ℕ → ℕ → ℕ
one_if n other = cond (eqb other n) 1 0

abbrev times : ℕ → List ℕ → ℕ
times n [] = 0
times n (x ∷ numbers) = one_if n x + times n numbers

times-sum : (n : ℕ) (numbers : List ℕ) → times n numbers ≡ sum_by (one_if n) numbers
times-sum n [] = refl
times-sum n (x ∷ numbers) = ap (λ (m : ℕ). one_if n x + m) (times-sum n numbers) ∙ sym (sum_by-cons (one_if n) x numbers)

abbrev stands : ℕ → List ℕ → Bool
stands n numbers = list_any (λ other. eqb other n) numbers

stands-not : (n : ℕ) (numbers : List ℕ) → stands n numbers ≡ false → times n numbers ≡ 0
stands-not n [] is = refl
stands-not n (x ∷ numbers) is =
    elim (eqb x n) as (λ t. (t || stands n numbers) ≡ false → cond t 1 0 + times n numbers ≡ 0) [
      | true ↦ λ e. cc
      | false ↦ λ e. let rest = stands-not n numbers e in omega (arith, rest)
    ] is

not-stands : (n : ℕ) (numbers : List ℕ) → times n numbers ≡ 0 → stands n numbers ≡ false
not-stands n [] is = refl
not-stands n (x ∷ numbers) is =
    elim (eqb x n) as (λ t. cond t 1 0 + times n numbers ≡ 0 → (t || stands n numbers) ≡ false) [
      | true ↦ λ e. absurd (omega (arith, e))
      | false ↦ λ e. not-stands n numbers (omega (arith, e))
    ] is

once : (numbers : List ℕ) → are_distinct numbers ≡ true → (n : ℕ) → times n numbers ≤ 1
once [] is n = omega arith
once (x ∷ numbers) is n =
    let parts = and_parts _ _ is in
    let none = stands-not x numbers (not-true _ parts.0) in
    let rest = once numbers parts.1 n in
    elim (eqb x n) as (λ t. eqb x n ≡ t → cond t 1 0 + times n numbers ≤ 1) [
      | true ↦ λ e. let same = eqb-true x n e in let gone : times n numbers ≡ 0 = sym (ap (λ (n : ℕ). times n numbers) same) ∙ none in omega (arith, gone)
      | false ↦ λ e. omega (arith, rest)
    ] refl

once-head : (x : ℕ) (numbers : List ℕ) → times x (x ∷ numbers) ≤ 1 → times x numbers ≡ 0
once-head x numbers h =
    let one : one_if x x ≡ 1 = ap (λ (t : Bool). cond t 1 0) (eq-eqb x x refl) in
    omega (arith, one, h)

once-tail : (n x : ℕ) (numbers : List ℕ) → times n (x ∷ numbers) ≤ 1 → times n numbers ≤ 1
once-tail n x numbers h = omega (arith, h)

distinct : (numbers : List ℕ) → ((n : ℕ) → times n numbers ≤ 1) → are_distinct numbers ≡ true
distinct [] each = refl
distinct (x ∷ numbers) each =
    let gone = not-stands x numbers (once-head x numbers (each x)) in
    let rest = distinct numbers (λ n. once-tail n x numbers (each n)) in
    and_from _ _ (ap not gone) rest

moved-times : (one two : List ℕ) → IsPermutation one two → (n : ℕ) → times n two ≡ times n one
moved-times one two moved n = times-sum n two ∙ sum_by-IsPermutation (one_if n) one two moved ∙ sym (times-sum n one)

same-bool : (a b : Bool) → (a ≡ true → b ≡ true) → (b ≡ true → a ≡ true) → a ≡ b
same-bool true b f g = sym (f refl)
same-bool false true f g = g refl
same-bool false false f g = refl

distinct-permuted : (one two : List ℕ) → IsPermutation one two → are_distinct one ≡ are_distinct two
distinct-permuted one two moved =
    same-bool (are_distinct one) (are_distinct two)
    (λ is. distinct two (λ n. let same = moved-times one two moved n in let least = once one is n in omega (arith, same, least)))
    (λ is. distinct one (λ n. let same = moved-times one two moved n in let least = once two is n in omega (arith, same, least)))

-- ---- sorted

abbrev AllFrom : ℕ → List ℕ → Type 0
AllFrom least [] = Unit {0}
AllFrom least (x ∷ xs) = (least ≤ x) × AllFrom least xs

abbrev Ordered : List ℕ → Type 0
Ordered [] = Unit {0}
Ordered (x ∷ xs) = AllFrom x xs × Ordered xs

all-from : (least : ℕ) (xs : List ℕ) → ((j : ℕ) → j < length xs → least ≤ get_or xs j 0) → AllFrom least xs
all-from least [] each = tt
all-from least (x ∷ xs) each = (each 0 (omega arith), all-from least xs (λ j h. each (suc j) (omega (arith, h))))

ordered : (xs : List ℕ) → IsNonDecreasing xs → Ordered xs
ordered [] rises = tt
ordered (x ∷ xs) rises = (
  all-from x xs (λ j h. rises 0 (suc j) 0 (omega arith) (omega (arith, h))),
  ordered xs (λ i j d low high. rises (suc i) (suc j) d (omega (arith, low)) (omega (arith, high))),
)

above : (x y : ℕ) (xs : List ℕ) → x < y → AllFrom y xs → stands x xs ≡ false
above x y [] less all = refl
above x y (z ∷ xs) less all =
    let least = all.0 in
    let not-it : eqb z x ≡ false = ne_eqb z x (λ e. absurd (omega (arith, e, least, less))) in
    ap (λ (t : Bool). t || stands x xs) not-it ∙ above x y xs less all.1

apart-step : (x y : ℕ) (xs : List ℕ) → x ≤ y → AllFrom y xs → not (stands x (y ∷ xs)) ≡ not (eqb y x)
apart-step x y xs low all =
    elim (eqb y x) as (λ t. eqb y x ≡ t → not (t || stands x xs) ≡ not t) [
      | true ↦ λ e. refl
      | false ↦ λ e. ap not (above x y xs (less e) all)
    ] refl
  where
    less : eqb y x ≡ false → x < y
    less e = let other = eqb-false y x e in omega (arith, low, other)

apart-ordered : (xs : List ℕ) → Ordered xs → are_apart xs ≡ are_distinct xs
apart-ordered [] is = refl
apart-ordered (x ∷ []) is = refl
apart-ordered (x ∷ y ∷ xs) is =
    ap (λ (b : Bool). not (eqb y x) && b) (apart-ordered (y ∷ xs) is.1)
    ∙ ap (λ (b : Bool). b && are_distinct (y ∷ xs)) (sym (apart-step x y xs is.0.0 is.1.0))

-- sorted numbers are apart where those that were sorted are distinct
pub apart-sorted : (one two : List ℕ) → IsPermutation one two → IsSorted nat_cmp two → are_apart two ≡ are_distinct one
apart-sorted one two moved sorted =
    apart-ordered two (ordered two (IsNonDecreasingBy-from_sort (λ (x : ℕ). x) two sorted)) ∙ sym (distinct-permuted one two moved)

-- at most one number stands apart
pub apart-short : (numbers : List ℕ) → length numbers ≤ 1 → true ≡ are_apart numbers
apart-short [] short = refl
apart-short (x ∷ []) short = refl
apart-short (x ∷ y ∷ numbers) short = absurd (omega (arith, short))
