-- Lists in pieces.
use Rattle.std.proofs.Common.{◌≡◌, ◌∙◌, ℕ, zero, suc, ◌≤◌, ◌<◌, List, [], ◌∷◌, ◌++◌, length, take, drop, map, set, get_or, eqb, false, refl, sym, ap, arith, length-drop, append_assoc}
use Rattle.std.specs.List.{flat_map}
use Rattle.std.proofs.lemmas.List.{map-append}
use Rattle.std.proofs.Math.Seq.{take-suc, take-suc-set}
use Rattle.model_datagram.specs.Tlvs.{in_pieces}
use Rattle.router_sending.specs.Writing.{pieced}

-- more pieces than there are make no difference
enough : {X : Type 0} (k n m : ℕ) (list : List X) → length list ≤ n → length list ≤ m → in_pieces n (suc k) list ≡ in_pieces m (suc k) list
enough k zero zero list a b = refl
enough k zero (suc m) [] a b = refl
enough k zero (suc m) (x ∷ list) a b = absurd (omega (arith, a))
enough k (suc n) zero [] a b = refl
enough k (suc n) zero (x ∷ list) a b = absurd (omega (arith, b))
enough k (suc n) (suc m) [] a b = refl
enough {X} k (suc n) (suc m) (x ∷ list) a b =
    let rest = length-drop k list in
    ap (λ (pieces : List (List X)). take (suc k) (x ∷ list) ∷ pieces) (enough k n m (drop k list) (omega (arith, rest, a)) (omega (arith, rest, b)))

-- the first piece and the others
pub pieced-step : {X : Type 0} (k : ℕ) (octets : List X → List ℕ) (list : List X) → 0 < length list
    → octets (take (suc k) list) ++ pieced (suc k) octets (drop (suc k) list) ≡ pieced (suc k) octets list
pieced-step k octets [] some = absurd (omega arith)
pieced-step {X} k octets (x ∷ list) some =
    let rest = length-drop k list in
    ap (λ (pieces : List (List X)). octets (take (suc k) (x ∷ list)) ++ flat_map octets pieces)
    (enough k (length (drop k list)) (length list) (drop k list) (omega arith) (omega (arith, rest)))

-- one piece is written
pub pieced-written : {X : Type 0} (k : ℕ) (octets : List X → List ℕ) (out piece whole : List ℕ) (list first rest : List X) → 0 < length list
    → first ≡ take (suc k) list → rest ≡ drop (suc k) list → piece ≡ out ++ octets first
    → out ++ pieced (suc k) octets list ≡ whole → piece ++ pieced (suc k) octets rest ≡ whole
pieced-written k octets out piece whole list first rest some first_is rest_is written is =
    (λ i. written i ++ pieced (suc k) octets (rest_is i))
    ∙ ap (λ (xs : List _). (out ++ octets xs) ++ pieced (suc k) octets (drop (suc k) list)) first_is
    ∙ append_assoc out (octets (take (suc k) list)) (pieced (suc k) octets (drop (suc k) list))
    ∙ ap (λ (xs : List ℕ). out ++ xs) (pieced-step k octets list some)
    ∙ is

-- ---- pieces of the items' own form

module _ {X Y : Type 0} (f : X → Y) (octets : List Y → List ℕ) where
  take-map : (n : ℕ) (xs : List X) → map f (take n xs) ≡ take n (map f xs)
  take-map zero xs = refl
  take-map (suc n) [] = refl
  take-map (suc n) (x ∷ xs) = ap (λ (ys : List Y). f x ∷ ys) (take-map n xs)

  map-size : (xs : List X) → length (map f xs) ≡ length xs
  map-size [] = refl
  map-size (x ∷ xs) = ap suc (map-size xs)

  drop-both : (n : ℕ) (xs : List X) → map f (drop n xs) ≡ drop n (map f xs)
  drop-both zero xs = refl
  drop-both (suc n) [] = refl
  drop-both (suc n) (x ∷ xs) = drop-both n xs

  in-pieces : (k count : ℕ) (xs : List X) → flat_map (λ (piece : List X). octets (map f piece)) (in_pieces count (suc k) xs) ≡ flat_map octets (in_pieces count (suc k) (map f xs))
  in-pieces k zero xs = refl
  in-pieces k (suc count) [] = refl
  in-pieces k (suc count) (x ∷ xs) =
      (λ i. octets (f x ∷ take-map k xs i) ++ in-pieces k count (drop k xs) i)
      ∙ ap (λ (ys : List Y). octets (f x ∷ take k (map f xs)) ++ flat_map octets (in_pieces count (suc k) ys)) (drop-both k xs)

  pub pieced-map : (k : ℕ) (xs : List X) → flat_map (λ (piece : List X). octets (map f piece)) (in_pieces (length xs) (suc k) xs) ≡ pieced (suc k) octets (map f xs)
  pieced-map k xs =
      in-pieces k (length xs) xs
      ∙ ap (λ (n : ℕ). flat_map octets (in_pieces n (suc k) (map f xs))) (sym (map-size xs))

-- ---- items written into their places

pub written-place : {X Y : Type 0} (f : X → Y) (ys : List Y) (xs : List X) (place : ℕ) (d : X) → place < length ys → place < length xs
    → take place ys ≡ map f (take place xs) → take (suc place) (set ys place (f (get_or xs place d))) ≡ map f (take (suc place) xs)
written-place f ys xs place d there within is =
    take-suc-set ys place (f (get_or xs place d)) there
    ∙ ap (λ (front : List _). front ++ (f (get_or xs place d) ∷ [])) is
    ∙ sym (map-append f (take place xs) (get_or xs place d ∷ []))
    ∙ ap (map f) (sym (take-suc xs place d within))

-- a list that isn't empty
pub some-left : (n : ℕ) → false ≡ eqb n 0 → 0 < n
some-left zero e = absurd (cc)
some-left (suc n) e = omega arith

pub take-short : {X : Type 0} (k : ℕ) (xs : List X) → length (take k xs) ≤ k
take-short zero xs = omega arith
take-short (suc k) [] = omega arith
take-short (suc k) (x ∷ xs) = let rest = take-short k xs in omega (arith, rest)
