-- Own LSPs as the router's model has them.
use Rattle.std.proofs.Common.{◌≡◌, ℕ, ◌+◌, ◌==◌, Bool, true, false, ◌-◌, List, [], ◌∷◌, length, take, drop, map, Some, if◌then◌else◌, refl, ap, sym, ◌∙◌, arith}
use Rattle.std.proofs.lemmas.List.{length-drop}
use Rattle.std.proofs.Math.Seq.{take-length}
use Rattle.std.proofs.lemmas.Bool.Decides.{nat_tests}
use Rattle.std.specs.Option.{option_map, IsSome}
use Rattle.model_router.specs.Maps.{find, put, erase, each}
use Rattle.model_router.specs.Routers.{Issued}
use Rattle.lsp_fragments.specs.declared.kept.Kept.{Kept}
use Rattle.lsp_fragments.specs.Kept.{kept_id, by_id, issued_of, issued_pairs, all_issued, issued_from, first_id, older_kept}
use Rattle.model_router.specs.Seconds.{older}
use Rattle.model_router.specs.Sorted.{RisesFrom}

-- by a test's two answers
choose : (P : Bool → Type 0) (t : Bool) → P true → P false → P t
choose P true a b = a
choose P false a b = b

pub find-shown : (m : List (ℕ × Kept)) (n : ℕ) → find (issued_pairs m) n ≡ option_map issued_of (find m n)
find-shown [] n = refl
find-shown (p ∷ m) n = grind (arith, nat_tests, find-shown m n)

pub find-some : (m : List (ℕ × Kept)) (n : ℕ) → IsSome (find (issued_pairs m) n) → IsSome (find m n)
find-some [] n some = some
find-some (p ∷ m) n some =
    choose (λ t. IsSome (if t then Some (issued_of p.1) else find (issued_pairs m) n) → IsSome (if t then Some p.1 else find m n)) (p.0 == n) (λ k. refl) (λ k. find-some m n k) some

pub put-shown : (m : List (ℕ × Kept)) (n : ℕ) (k : Kept) → issued_pairs (put m n k) ≡ put (issued_pairs m) n (issued_of k)
unfolding put
put-shown [] n k = refl
put-shown (p ∷ m) n k = grind (arith, nat_tests, put-shown m n k)

pub erase-shown : (m : List (ℕ × Kept)) (n : ℕ) → issued_pairs (erase m n) ≡ erase (issued_pairs m) n
unfolding erase
erase-shown [] n = refl
erase-shown (p ∷ m) n = grind (arith, nat_tests, erase-shown m n)

pub from-shown : (m : List (ℕ × Kept)) (n : ℕ) → issued_from n (issued_pairs m) ≡ issued_pairs (issued_from n m)
from-shown [] n = refl
from-shown (p ∷ m) n = grind (arith, nat_tests, from-shown m n)

pub issued-rises : (m : List (ℕ × Kept)) (least : ℕ) → RisesFrom least m → RisesFrom least (issued_pairs m)
issued-rises [] least r = tt
issued-rises (p ∷ m) least r = (r.0, issued-rises m (p.0 + 1) r.1)

pub each-shown : (xs : List Kept) → all_issued (map older_kept xs) ≡ each (λ (_ : ℕ) (i : Issued). older i) (all_issued xs)
unfolding each
each-shown [] = refl
each-shown (x ∷ xs) = ap (λ (rest : List (ℕ × Issued)). (kept_id x, older (issued_of x)) ∷ rest) (each-shown xs)

pub older-rises : (xs : List Kept) (least : ℕ) → RisesFrom least (by_id xs) → RisesFrom least (by_id (map older_kept xs))
older-rises [] least r = tt
older-rises (x ∷ xs) least r = (r.0, older-rises xs (kept_id x + 1) r.1)

-- what is behind a place, as an index gives it
rest : (i : ℕ) (xs : List Kept) → take (length xs - i) (drop i xs) ≡ drop i xs
rest i xs = rw (← length-drop i xs) (take-length (drop i xs))

pub first-behind : (xs : List Kept) (n i : ℕ) → issued_from n (by_id xs) ≡ by_id (drop i xs) → first_id (all_issued (take (length xs - i) (drop i xs))) ≡ first_id (issued_from n (all_issued xs))
first-behind xs n i e =
    ap (λ (ys : List Kept). first_id (all_issued ys)) (rest i xs)
    ∙ ap (λ (m : List _). first_id (issued_pairs m)) (sym e)
    ∙ ap first_id (sym (from-shown (by_id xs) n))
