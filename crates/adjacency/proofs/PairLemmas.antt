-- What is found and put at a place of a list of pairs in order.
use Rattle.std.proofs.Common.{◌≡◌, ℕ, ◌+◌, ◌<◌, ◌≤◌, true, false, Bool, nat_le, ◌&&◌, List, [], ◌∷◌, length, get_or, set, Option, Some, None, is_none, is_some, if◌then◌else◌, refl, sym, ap, ◌∙◌, subst, arith}
use Rattle.std.specs.List.{insert}
use Rattle.std.proofs.lemmas.Bool.Decides.{nat_tests}
use Rattle.model_router.specs.Maps.{find, put}
use Rattle.model_router.specs.Sorted.{RisesFrom}
use Rattle.ordered.specs.Keyed.{keyed, paired, IsPlace, IsGap}
use Rattle.ordered.proofs.PairLemmas as pairs
use Rattle.adjacency.specs.Remembered.{number_of, AreBoots, is_full, greater}
use Rattle.ordered.proofs.MapLemmas.{put-rises, length-put}

-- a list is that of its pairs
same : (xs : List (ℕ × ℕ)) → paired number_of (λ pair. pair.1) xs ≡ xs
same [] = refl
same (x ∷ xs) = ap (λ (m : List (ℕ × ℕ)). x ∷ m) (same xs)

pub keyed-rises : (xs : List (ℕ × ℕ)) (least : ℕ) → RisesFrom least xs → RisesFrom least (keyed number_of xs)
keyed-rises [] least r = tt
keyed-rises (x ∷ xs) least r = (r.0, keyed-rises xs (x.0 + 1) r.1)

pub find-pair : (xs : List (ℕ × ℕ)) (n i : ℕ) (d : ℕ × ℕ) → IsPlace number_of xs n i → find xs n ≡ Some (get_or xs i d).1
find-pair xs n i d at = ap (λ (m : List (ℕ × ℕ)). find m n) (sym (same xs)) ∙ pairs.find-pair number_of (λ pair. pair.1) xs n i d at

pub put-pair : (xs : List (ℕ × ℕ)) (n i v : ℕ) → IsPlace number_of xs n i → put xs n v ≡ set xs i (n, v)
put-pair xs n i v at =
    ap (λ (m : List (ℕ × ℕ)). put m n v) (sym (same xs)) ∙ pairs.put-pair number_of (λ pair. pair.1) xs n i (n, v) refl at ∙ same (set xs i (n, v))

pub find-no_pair : (xs : List (ℕ × ℕ)) (n i : ℕ) → IsGap number_of xs n i → find xs n ≡ None
find-no_pair xs n i gap = ap (λ (m : List (ℕ × ℕ)). find m n) (sym (same xs)) ∙ pairs.find-no_pair number_of (λ pair. pair.1) xs n i gap

pub put-new_pair : (xs : List (ℕ × ℕ)) (n i v : ℕ) → IsGap number_of xs n i → put xs n v ≡ insert xs i (n, v)
put-new_pair xs n i v gap =
    ap (λ (m : List (ℕ × ℕ)). put m n v) (sym (same xs)) ∙ pairs.put-new_pair number_of (λ pair. pair.1) xs n i (n, v) refl gap ∙ same (insert xs i (n, v))

-- one more is put where there is room, or the system is there
pub put-boots : (xs : List (ℕ × ℕ)) (space n v : ℕ) → AreBoots xs space → is_full xs n ≡ false → AreBoots (put xs n v) space
put-boots xs space n v b free = record {
  rises = put-rises xs 0 n v (omega arith) b.rises;
  few = let len = length-put xs 0 n v b.rises in fits (find xs n) (length xs) b.few free len;
  room = b.room;
}
  where
    fits : (o : Option ℕ) (len : ℕ) → len ≤ 256 → (nat_le 256 len && is_none o) ≡ false → length (put xs n v) ≡ (if is_some o then len else len + 1) → length (put xs n v) ≤ 256
    fits None len le free e = grind (arith, nat_tests, le, free, e)
    fits (Some x) len le free e = omega (arith, le, e)

and-false : (t : Bool) → (t && false) ≡ false
and-false true = refl
and-false false = refl

-- a system that is there leaves room
pub free-pair : (xs : List (ℕ × ℕ)) (n i : ℕ) (d : ℕ × ℕ) → IsPlace number_of xs n i → is_full xs n ≡ false
free-pair xs n i d at = ap (λ (o : Option ℕ). nat_le 256 (length xs) && is_none o) (find-pair xs n i d at) ∙ and-false (nat_le 256 (length xs))

-- one that isn't there finds room below 256
pub free-gap : (xs : List (ℕ × ℕ)) (n len : ℕ) → len ≡ length xs → len < 256 → is_full xs n ≡ false
free-gap xs n len e lt = let short : nat_le 256 (length xs) ≡ false = grind (arith, nat_tests, e, lt) in ap (λ (t : Bool). t && is_none (find xs n)) short

-- and none from 256 on
pub full-gap : (xs : List (ℕ × ℕ)) (n i len : ℕ) → IsGap number_of xs n i → len ≡ length xs → 256 ≤ len → true ≡ is_full xs n
full-gap xs n i len gap e le =
    let long : nat_le 256 (length xs) ≡ true = grind (arith, nat_tests, e, le) in
    sym (ap (λ (t : Bool). t && is_none (find xs n)) long ∙ ap (λ (o : Option ℕ). is_none o) (find-no_pair xs n i gap))

-- what is kept of a system that is there, and of a new one
pub kept-pair : (xs : List (ℕ × ℕ)) (n i num boot g : ℕ) (d : ℕ × ℕ) → IsPlace number_of xs n i → num ≡ n → d ≡ get_or xs i d → g ≡ greater boot (Some d.1) → set xs i (num, g) ≡ put xs n (greater boot (find xs n))
kept-pair xs n i num boot g d at e is k =
    let same : find xs n ≡ Some d.1 = find-pair xs n i d at ∙ ap (λ (p : ℕ × ℕ). Some p.1) (sym is) in
    (λ j. set xs i (e j, k j)) ∙ sym (put-pair xs n i (greater boot (Some d.1)) at) ∙ ap (λ (o : Option ℕ). put xs n (greater boot o)) (sym same)

pub kept-new_pair : (xs ys : List (ℕ × ℕ)) (n i num boot : ℕ) → IsGap number_of xs n i → num ≡ n → ys ≡ insert xs i (num, boot) → ys ≡ put xs n (greater boot (find xs n))
kept-new_pair xs ys n i num boot gap e is =
    is ∙ ap (λ (m : ℕ). insert xs i (m, boot)) e ∙ sym (put-new_pair xs n i boot gap) ∙ ap (λ (o : Option ℕ). put xs n (greater boot o)) (sym (find-no_pair xs n i gap))

pub boots-kept : (xs ys : List (ℕ × ℕ)) (space room n v : ℕ) → AreBoots xs space → is_full xs n ≡ false → ys ≡ put xs n v → room ≡ space → AreBoots ys room
boots-kept xs ys space room n v b free e same = subst (λ (zs : List (ℕ × ℕ)). AreBoots zs room) (sym e) (subst (λ (m : ℕ). AreBoots (put xs n v) m) (sym same) (put-boots xs space n v b free))
