-- The circuits that are point-to-point, one after another.
use Rattle.std.proofs.Common.{◌≡◌, ◌≢◌, ◌&&◌, ◌||◌, Bool, true, false, if◌then◌else◌, nat_lt, ℕ, zero, suc, ◌+◌, ◌<◌, ◌≤◌, List, [], ◌∷◌, length, get_or, Some, None, refl, sym, ap, ◌∙◌, arith}
use Rattle.std.proofs.lemmas.Bool.Decides.{nat_tests}
use Rattle.isis_base.specs.declared.level.CircuitKind.{CircuitKind}
use Rattle.model_router.specs.Places.{nth}
use Rattle.model_router.specs.Sets.{has, with_one}
use Rattle.model_router.proofs.SetLemmas.{has-with_one, has-none}
use Rattle.model_router.proofs.BookLemmas.{same-or}
use Rattle.flag_sync.specs.Circuits.{is_point}

pub nth-some : (xs : List CircuitKind) (i : ℕ) (d : CircuitKind) → i < length xs → nth xs i ≡ Some (get_or xs i d)
nth-some [] i d lt = absurd (omega arith)
nth-some (x ∷ xs) zero d lt = refl
nth-some (x ∷ xs) (suc i) d lt = nth-some xs i d (omega arith)

nth-none : (xs : List CircuitKind) (i : ℕ) → length xs ≤ i → nth xs i ≡ None
nth-none [] i le = refl
nth-none (x ∷ xs) zero le = absurd (omega arith)
nth-none (x ∷ xs) (suc i) le = nth-none xs i (omega arith)

pub kinds-start : (kinds : List CircuitKind) (q : ℕ) → has 0 q ≡ (nat_lt q 0 && is_point (nth kinds q))
kinds-start kinds q = has-none q ∙ (let no : nat_lt q 0 ≡ false = grind (arith, nat_tests) in rw no refl)

pub kinds-turn : (points place : ℕ) (kinds : List CircuitKind) (kind : CircuitKind) → nth kinds place ≡ Some kind → ((q : ℕ) → has points q ≡ (nat_lt q place && is_point (nth kinds q))) → (q : ℕ) → has (if is_point (Some kind) then with_one points place else points) q ≡ (nat_lt q (place + 1) && is_point (nth kinds q))
kinds-turn points place kinds kind e known q =
    turn (is_point (Some kind)) refl
  where
    at : place ≡ q → is_point (nth kinds q) ≡ is_point (Some kind)
    at s = ap (λ (n : ℕ). is_point (nth kinds n)) (sym s) ∙ ap is_point e

    before : place ≡ q → has points q ≡ false
    before s = known q ∙ (let no : nat_lt q place ≡ false = grind (arith, nat_tests, s) in rw no refl)

    now : place ≡ q → nat_lt q (place + 1) ≡ true
    now s = grind (arith, nat_tests, s)

    other : place ≢ q → nat_lt q (place + 1) ≡ nat_lt q place
    other d = grind (arith, nat_tests, d)

    turn : (t : Bool) → is_point (Some kind) ≡ t → has (if t then with_one points place else points) q ≡ (nat_lt q (place + 1) && is_point (nth kinds q))
    turn true p =
        has-with_one points place q
        ∙ same-or (λ u. (u || has points q) ≡ (nat_lt q (place + 1) && is_point (nth kinds q))) place q
        (λ s. rw (now s, at s, p) refl)
        (λ d. rw (other d) (known q))
    turn false p =
        same-or (λ u. has points q ≡ (nat_lt q (place + 1) && is_point (nth kinds q))) place q
        (λ s. rw (now s, at s, p) (before s))
        (λ d. rw (other d) (known q))

pub kinds-end : (points place : ℕ) (kinds : List CircuitKind) → length kinds ≤ place → ((q : ℕ) → has points q ≡ (nat_lt q place && is_point (nth kinds q))) → (q : ℕ) → has points q ≡ is_point (nth kinds q)
kinds-end points place kinds le known q = known q ∙ cases (nat_lt q place) refl
  where
    past : nat_lt q place ≡ false → is_point (nth kinds q) ≡ false
    past e = let ge : length kinds ≤ q = (let h : place ≤ q = grind (arith, nat_tests, e) in omega (arith, h, le)) in ap is_point (nth-none kinds q ge)

    cases : (t : Bool) → nat_lt q place ≡ t → (t && is_point (nth kinds q)) ≡ is_point (nth kinds q)
    cases true e = refl
    cases false e = sym (past e)
