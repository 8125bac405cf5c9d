-- The pair of check octets that makes both sums 0, and that there is no other.
use Rattle.std.proofs.Common.{◌≡◌, ℕ, suc, ◌+◌, ◌*◌, ◌/◌, ◌%◌, ◌<◌, ◌≤◌, List, length, zero, set, take, drop, ◌++◌, [], ◌∷◌, ap, ◌∙◌, arith, refl, sym, get_or, length-set, length-drop, get_or-set_same, get_or-set_other, rules, tests}
use Rattle.std.proofs.lemmas.List.{set-set, set_comm}
use Rattle.iso_checksum.specs.Checksum.{octet_sum, weighted_sum, checksum_holds, Holds, with_pair, IsCheckOctet}
use Rattle.iso_checksum.proofs.SumLemmas.{octet_sum-append, weighted_sum-append}

-- ---- the fact by its two sums

pub Holds-from_sums : (xs : List ℕ) → octet_sum xs % 255 ≡ 0 → weighted_sum xs % 255 ≡ 0 → Holds xs
unfolding checksum_holds
Holds-from_sums xs plain weighted = rw (plain, weighted) refl

pub sums-from_Holds : (xs : List ℕ) → Holds xs → (octet_sum xs % 255 ≡ 0) × (weighted_sum xs % 255 ≡ 0)
unfolding checksum_holds
sums-from_Holds xs h = search (rules, tests)

-- ---- two octets among others

pub octet_sum-with_pair : (xs : List ℕ) (place x y : ℕ) → octet_sum (with_pair xs place x y) ≡ octet_sum (with_pair xs place 0 0) + x + y
octet_sum-with_pair xs place x y =
    let rest = drop (place + 2) xs in
    let now : octet_sum (with_pair xs place x y) ≡ octet_sum (take place xs) + (x + (y + octet_sum rest)) = octet_sum-append (take place xs) (x ∷ y ∷ rest) in
    let blank : octet_sum (with_pair xs place 0 0) ≡ octet_sum (take place xs) + (0 + (0 + octet_sum rest)) = octet_sum-append (take place xs) (0 ∷ 0 ∷ rest) in
    omega arith

-- k is the weight of the second
pub weighted_sum-with_pair : (xs : List ℕ) (place k x y : ℕ) → k ≡ length (drop (place + 2) xs) + 1
    → weighted_sum (with_pair xs place x y) ≡ weighted_sum (with_pair xs place 0 0) + (k + 1) * x + k * y
weighted_sum-with_pair xs place k x y e =
    let front = take place xs in
    let rest = drop (place + 2) xs in
    let m = length rest in
    let now : weighted_sum (with_pair xs place x y) ≡ weighted_sum front + suc (suc m) * octet_sum front + (suc (suc m) * x + (suc m * y + weighted_sum rest)) =
    weighted_sum-append front (x ∷ y ∷ rest) in
    let blank : weighted_sum (with_pair xs place 0 0) ≡ weighted_sum front + suc (suc m) * octet_sum front + (suc (suc m) * 0 + (suc m * 0 + weighted_sum rest)) =
    weighted_sum-append front (0 ∷ 0 ∷ rest) in
    rw e (omega arith)

pub Holds-with_pair : (xs : List ℕ) (place k x y : ℕ) → k ≡ length (drop (place + 2) xs) + 1
    → (octet_sum (with_pair xs place 0 0) + x + y) % 255 ≡ 0
    → (weighted_sum (with_pair xs place 0 0) + (k + 1) * x + k * y) % 255 ≡ 0
    → Holds (with_pair xs place x y)
Holds-with_pair xs place k x y weight plain weighted =
    Holds-from_sums (with_pair xs place x y)
    (rw (octet_sum-with_pair xs place x y) plain)
    (rw (weighted_sum-with_pair xs place k x y weight) weighted)

-- ---- two octets written

written_pair : (xs : List ℕ) (place x y : ℕ) → suc place < length xs → set (set xs place x) (suc place) y ≡ take place xs ++ x ∷ y ∷ drop (suc (suc place)) xs
written_pair [] place x y h = absurd (omega arith)
written_pair (a ∷ []) place x y h = absurd (omega arith)
written_pair (a ∷ b ∷ xs) zero x y h = refl
written_pair (a ∷ b ∷ xs) (suc place) x y h = ap (λ (ys : List ℕ). a ∷ ys) (written_pair (b ∷ xs) place x y (omega arith))

pub set-set_next : (xs : List ℕ) (place x y : ℕ) → place + 2 ≤ length xs → set (set xs place x) (place + 1) y ≡ with_pair xs place x y
set-set_next xs place x y h =
    let one : place + 1 ≡ suc place = omega arith in
    let two : place + 2 ≡ suc (suc place) = omega arith in
    rw (one, two) (written_pair xs place x y (omega arith))

-- two octets written where others were written before
pub set-set_again : (xs : List ℕ) (place v w x y : ℕ) → place + 2 ≤ length xs
    → set (set (set (set xs place v) (place + 1) w) place x) (place + 1) y ≡ with_pair xs place x y
set-set_again xs place v w x y h =
    rw (set_comm (set xs place v) (place + 1) place w x (omega arith), set-set (set (set xs place v) place x) (place + 1) w y, set-set xs place v x)
    (set-set_next xs place x y h)

-- two octets written where 0 was written before, of which the second has the weight k
pub Holds-set_again : (xs : List ℕ) (place k x y : ℕ) → place + 2 ≤ length xs → place + 1 + k ≡ length xs
    → (octet_sum (set (set xs place 0) (place + 1) 0) + x + y) % 255 ≡ 0
    → (weighted_sum (set (set xs place 0) (place + 1) 0) + (k + 1) * x + k * y) % 255 ≡ 0
    → Holds (set (set (set (set xs place 0) (place + 1) 0) place x) (place + 1) y)
Holds-set_again xs place k x y within weight plain weighted =
    let blank = set-set_next xs place 0 0 within in
    rw (set-set_again xs place 0 0 x y within)
    (Holds-with_pair xs place k x y (omega (arith, length-drop (place + 2) xs)) (rw blank at plain) (rw blank at weighted))

-- ---- no other two hold

same_residues : (a b k x y x' y' : ℕ) → IsCheckOctet x → IsCheckOctet y → IsCheckOctet x' → IsCheckOctet y'
    → (a + x + y) % 255 ≡ 0 → (b + (k + 1) * x + k * y) % 255 ≡ 0
    → (a + x' + y') % 255 ≡ 0 → (b + (k + 1) * x' + k * y') % 255 ≡ 0
    → (x ≡ x') × (y ≡ y')
same_residues a b k x y x' y' hx hy hx' hy' plain weighted plain' weighted' =
    let times : k * (a + x + y) ≡ k * (255 * ((a + x + y) / 255)) = ap (λ n. k * n) (omega arith) in
    let times' : k * (a + x' + y') ≡ k * (255 * ((a + x' + y') / 255)) = ap (λ n. k * n) (omega arith) in
    (omega arith, omega arith)

pub same-from_Holds : (xs : List ℕ) (place x y x' y' : ℕ) → IsCheckOctet x → IsCheckOctet y → IsCheckOctet x' → IsCheckOctet y'
    → Holds (with_pair xs place x y) → Holds (with_pair xs place x' y') → (x ≡ x') × (y ≡ y')
same-from_Holds xs place x y x' y' hx hy hx' hy' h h' =
    let k = length (drop (place + 2) xs) + 1 in
    let sums = sums-from_Holds (with_pair xs place x y) h in
    let sums' = sums-from_Holds (with_pair xs place x' y') h' in
    same_residues (octet_sum (with_pair xs place 0 0)) (weighted_sum (with_pair xs place 0 0)) k x y x' y' hx hy hx' hy'
    (rw (octet_sum-with_pair xs place x y) at sums.0) (rw (weighted_sum-with_pair xs place k x y refl) at sums.1)
    (rw (octet_sum-with_pair xs place x' y') at sums'.0) (rw (weighted_sum-with_pair xs place k x' y' refl) at sums'.1)

pub only_check_octets : (xs : List ℕ) (place v w f s : ℕ) → place + 2 ≤ length xs → IsCheckOctet f → IsCheckOctet s
    → Holds (set (set (set (set xs place v) (place + 1) w) place f) (place + 1) s)
    → (x y : ℕ) → IsCheckOctet x → IsCheckOctet y → Holds (with_pair xs place x y)
    → (x ≡ get_or (set (set (set (set xs place v) (place + 1) w) place f) (place + 1) s) place 0)
    × (y ≡ get_or (set (set (set (set xs place v) (place + 1) w) place f) (place + 1) s) (place + 1) 0)
only_check_octets xs place v w f s within hf hs h x y hx hy hxy =
    let z = set (set xs place v) (place + 1) w in
    let size : length z ≡ length xs = length-set (set xs place v) (place + 1) w ∙ length-set xs place v in
    let first : get_or (set (set z place f) (place + 1) s) place 0 ≡ f =
    get_or-set_other (set z place f) (place + 1) place s 0 (omega arith) ∙ get_or-set_same z place f 0 (omega arith) in
    let second : get_or (set (set z place f) (place + 1) s) (place + 1) 0 ≡ s =
    get_or-set_same (set z place f) (place + 1) s 0 (omega (arith, length-set z place f)) in
    let same = same-from_Holds xs place x y f s hx hy hf hs hxy (rw (set-set_again xs place v w f s within) at h) in
    (same.0 ∙ sym first, same.1 ∙ sym second)
