-- Both sums over blocks.
use Rattle.std.proofs.Common.{◌≡◌, ℕ, suc, ◌+◌, ◌*◌, ◌/◌, ◌%◌, ◌<◌, ◌≤◌, List, [], ◌∷◌, ◌++◌, length, get_or, drop, ap, ◌∙◌, Fits, w8, arith, length-append, length-drop}
use Rattle.std.proofs.lemmas.List.{at_drop_more}
use Rattle.std.proofs.Math.Nat.{mul-le-mul_left}
use Rattle.iso_checksum.specs.Checksum.{octet_sum, weighted_sum}

-- ---- octets one after another

pub octet_sum-append : (xs ys : List ℕ) → octet_sum (xs ++ ys) ≡ octet_sum xs + octet_sum ys
octet_sum-append [] ys = omega arith
octet_sum-append (x ∷ xs) ys = omega (arith, octet_sum-append xs ys)

pub weighted_sum-append : (xs ys : List ℕ) → weighted_sum (xs ++ ys) ≡ weighted_sum xs + length ys * octet_sum xs + weighted_sum ys
weighted_sum-append [] ys = omega arith
weighted_sum-append (x ∷ xs) ys =
    let e : length (xs ++ ys) * x ≡ (length xs + length ys) * x = ap (λ n. n * x) (length-append xs ys) in
    omega (arith, e, weighted_sum-append xs ys)

-- ---- how large the sums are

pub octet_sum-le : (xs : List ℕ) → ((k : ℕ) → Fits w8 (get_or xs k 0)) → octet_sum xs ≤ 255 * length xs
octet_sum-le [] small = omega arith
octet_sum-le (x ∷ xs) small =
    let here : Fits w8 x = small 0 in
    let rest = octet_sum-le xs (λ k. small (suc k)) in
    omega arith

pub weighted_sum-le : (xs : List ℕ) → ((k : ℕ) → Fits w8 (get_or xs k 0)) → 2 * weighted_sum xs ≤ 255 * (length xs * (length xs + 1))
weighted_sum-le [] small = omega arith
weighted_sum-le (x ∷ xs) small =
    let here : Fits w8 x = small 0 in
    let first : (length xs + 1) * x ≤ (length xs + 1) * 255 = mul-le-mul_left (length xs + 1) (omega arith) in
    let rest = weighted_sum-le xs (λ k. small (suc k)) in
    omega arith

-- ---- one octet on

pub octet_sum-drop : (xs : List ℕ) (i : ℕ) → i < length xs → octet_sum (drop i xs) ≡ get_or xs i 0 + octet_sum (drop (i + 1) xs)
octet_sum-drop xs i h = at_drop_more octet_sum xs i 0 h

pub weighted_sum-drop : (xs : List ℕ) (i w : ℕ) → i < length xs → w + i ≡ length xs → weighted_sum (drop i xs) ≡ w * get_or xs i 0 + weighted_sum (drop (i + 1) xs)
weighted_sum-drop xs i w h e =
    let step : weighted_sum (drop i xs) ≡ (length (drop (i + 1) xs) + 1) * get_or xs i 0 + weighted_sum (drop (i + 1) xs) =
    at_drop_more weighted_sum xs i 0 h ∙ ap (λ n. n * get_or xs i 0 + weighted_sum (drop (i + 1) xs)) (omega arith) in
    let weight : length (drop (i + 1) xs) + 1 ≡ w = omega (arith, length-drop (i + 1) xs) in
    omega (arith, step, ap (λ n. n * get_or xs i 0) weight)

-- ---- sums reduced modulo 255

-- a carries into what follows with one factor l, reduced or not
pub reduced-carry : (a b l r : ℕ) → (a % 255 + l * (b % 255) + r) % 255 ≡ (a + l * b + r) % 255
reduced-carry a b l r =
    let split : l * (255 * (b / 255) + b % 255) ≡ l * b = ap (λ n. l * n) (omega arith) in
    omega arith

-- the sums after a block and what follows it
pub octet_sum-reduced : (p : ℕ) (block rest : List ℕ) → ((p + octet_sum block) % 255 + octet_sum rest) % 255 ≡ (p + octet_sum (block ++ rest)) % 255
octet_sum-reduced p block rest = omega (arith, octet_sum-append block rest)

pub weighted_sum-reduced : (p w : ℕ) (block rest : List ℕ)
    → ((w + length block * p + weighted_sum block) % 255 + length rest * ((p + octet_sum block) % 255) + weighted_sum rest) % 255
    ≡ (w + length (block ++ rest) * p + weighted_sum (block ++ rest)) % 255
weighted_sum-reduced p w block rest =
    let longer : length (block ++ rest) * p ≡ (length block + length rest) * p = ap (λ n. n * p) (length-append block rest) in
    reduced-carry (w + length block * p + weighted_sum block) (p + octet_sum block) (length rest) (weighted_sum rest)
    ∙ ap (λ n. n % 255) (omega (arith, longer, weighted_sum-append block rest))
