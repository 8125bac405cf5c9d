-- The order of octets one by one, and of the numbers that they make.
use Rattle.std.proofs.Common.{◌≡◌, ℕ, ◌+◌, ◌*◌, ◌<◌, List, [], ◌∷◌, ◌++◌, length, get_or, refl, sym, ap, ◌∙◌, arith}
use Rattle.std.specs.declared.cmp.Ordering.{Ordering}
use Rattle.std.specs.declared.cmp.Ordering.TheVariants.{Less, Equal, Greater}
use Rattle.std.specs.List.{AllByRecursion}
use Rattle.std.specs.Ordering.{nat_cmp, ordering_then}
use Rattle.std.specs.Cmp.Lexicographic.{slice_cmp}
use Rattle.std.specs.Int.Digits.{number_from_digits_after}
use Rattle.std.specs.Int.{from_be_bytes, w64}
use Rattle.std.proofs.lemmas.Bool.Decides.{nat_tests}
use Rattle.isis_base.proofs.ArrayLemmas.{list_of_8}

then_equal : (a : Ordering) → ordering_then a Equal ≡ a
then_equal Less = refl
then_equal Equal = refl
then_equal Greater = refl

then_assoc : (a b c : Ordering) → ordering_then (ordering_then a b) c ≡ ordering_then a (ordering_then b c)
then_assoc Less b c = refl
then_assoc Equal b c = refl
then_assoc Greater b c = refl

-- lists of one length with an element more each: the lists decide, and then the elements
pub slice_cmp-push : (xs ys : List ℕ) (x y : ℕ) → length xs ≡ length ys → slice_cmp nat_cmp (xs ++ x ∷ []) (ys ++ y ∷ []) ≡ ordering_then (slice_cmp nat_cmp xs ys) (nat_cmp x y)
slice_cmp-push [] [] x y e = then_equal (nat_cmp x y)
slice_cmp-push [] (b ∷ ys) x y e = absurd (omega arith)
slice_cmp-push (a ∷ xs) [] x y e = absurd (omega arith)
slice_cmp-push (a ∷ xs) (b ∷ ys) x y e =
    ap (ordering_then (nat_cmp a b)) (slice_cmp-push xs ys x y (omega arith)) ∙ sym (then_assoc (nat_cmp a b) (slice_cmp nat_cmp xs ys) (nat_cmp x y))

-- one octet more: the numbers before it decide, and then the octets
nat_cmp-octet : (n m x y : ℕ) → x < 256 → y < 256 → nat_cmp (n * 256 + x) (m * 256 + y) ≡ ordering_then (nat_cmp n m) (nat_cmp x y)
nat_cmp-octet n m x y p q = grind (arith, nat_tests)

number_cmp : (n m : ℕ) (xs ys : List ℕ) → length xs ≡ length ys → AllByRecursion (λ o. o < 256) xs → AllByRecursion (λ o. o < 256) ys → nat_cmp (number_from_digits_after 256 n xs) (number_from_digits_after 256 m ys) ≡ ordering_then (nat_cmp n m) (slice_cmp nat_cmp xs ys)
number_cmp n m [] [] e p q = sym (then_equal (nat_cmp n m))
number_cmp n m [] (y ∷ ys) e p q = absurd (omega arith)
number_cmp n m (x ∷ xs) [] e p q = absurd (omega arith)
number_cmp n m (x ∷ xs) (y ∷ ys) e p q =
    number_cmp (n * 256 + x) (m * 256 + y) xs ys (omega arith) p.1 q.1
    ∙ ap (λ (o : Ordering). ordering_then o (slice_cmp nat_cmp xs ys)) (nat_cmp-octet n m x y p.0 q.0)
    ∙ then_assoc (nat_cmp n m) (nat_cmp x y) (slice_cmp nat_cmp xs ys)

-- eight octets as a number, the first one the greatest
from_be_bytes-octets : (a b c d e f g h : ℕ) → from_be_bytes w64 (a ∷ b ∷ c ∷ d ∷ e ∷ f ∷ g ∷ h ∷ []) ≡ number_from_digits_after 256 0 (a ∷ b ∷ c ∷ d ∷ e ∷ f ∷ g ∷ h ∷ [])
from_be_bytes-octets a b c d e f g h = omega arith

from_be_bytes-number : (xs : List ℕ) → length xs ≡ 8 → from_be_bytes w64 xs ≡ number_from_digits_after 256 0 xs
from_be_bytes-number xs h =
    from_be_bytes-octets (get_or xs 0 0) (get_or xs 1 0) (get_or xs 2 0) (get_or xs 3 0) (get_or xs 4 0) (get_or xs 5 0) (get_or xs 6 0) (get_or xs 7 0)
    ∙ ap (number_from_digits_after 256 0) (list_of_8 xs h)

-- eight octets are ordered as their numbers
pub slice_cmp-number : (xs ys : List ℕ) → length xs ≡ 8 → length ys ≡ 8 → AllByRecursion (λ o. o < 256) xs → AllByRecursion (λ o. o < 256) ys → slice_cmp nat_cmp xs ys ≡ nat_cmp (from_be_bytes w64 xs) (from_be_bytes w64 ys)
slice_cmp-number xs ys h k p q =
    sym (number_cmp 0 0 xs ys (h ∙ sym k) p q)
    ∙ ap (λ (n : ℕ). nat_cmp n (number_from_digits_after 256 0 ys)) (sym (from_be_bytes-number xs h))
    ∙ ap (nat_cmp (from_be_bytes w64 xs)) (sym (from_be_bytes-number ys k))
