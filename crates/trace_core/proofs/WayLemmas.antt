-- A packet on its way: what was followed so far, and that it ends.
use Rattle.std.proofs.Common.{◌≡◌, ◌<◌, ◌≤◌, ℕ, zero, suc, ◌+◌, ◌-◌, false, List, [], ◌∷◌, ◌++◌, length, refl, sym, ap, subst, arith, inl, inr, nat_eq}
use Rattle.std.specs.List.{Contains, IsDistinct, AllByRecursion, range_with_len}
use Rattle.std.proofs.lemmas.Bool.{ne_eqb}
use Rattle.std.proofs.lemmas.Bool.Decides.{Decides-eqb}
use Rattle.std.proofs.lemmas.Cmp.{nat_eq_equiv}
use Rattle.std.proofs.lemmas.List.FromFn.{length-range_with_len, get_or-range_with_len}
use Rattle.std.proofs.lemmas.List.Elements.{Contains-append_right, Contains-append_cases}
use Rattle.std.proofs.lemmas.Map.Keys.{IsDistinct-cons}
use Rattle.std.proofs.lemmas.Map.Made.{length-le_from_is_member, is_member-Decides}
use Rattle.trace_core.specs.declared.step.Step.{Step}
use Rattle.trace_core.specs.declared.step.Step.TheVariants.{On}
use Rattle.trace_core.specs.Traces.{AreMoves, IsNew, AreOnce}

-- ---- lists of places

-- the only item of a list of one
pub one-item : (x p : ℕ) → Contains (x ∷ []) p → x ≡ p
one-item x p (zero, low, is) = is
one-item x p (suc k, low, is) = absurd (omega (arith, low))

-- one more, that isn't among them
pub once-more : (xs : List ℕ) (n : ℕ) → AreOnce xs → (Contains xs n → ⊥) → AreOnce (xs ++ (n ∷ []))
once-more [] n once new = ((λ h. let l = h.1 in absurd (omega (arith, l))), tt)
once-more (x ∷ xs) n once new = (
  (λ h.
      elim (Contains-append_cases xs (n ∷ []) x h) [
        | inl old ↦ once.0 old
        | inr last ↦ new (0, omega arith, sym (one-item n x last))
      ]),
  once-more xs n once.1 (λ h. new (Contains-append_right (x ∷ []) xs n h)),
)

-- none stands twice: nor by the test of numbers
apart : (x : ℕ) (xs : List ℕ) → (Contains xs x → ⊥) → AllByRecursion (λ y. nat_eq x y ≡ false) xs
apart x [] none = tt
apart x (y ∷ xs) none = (
  ne_eqb x y (λ e. none (0, omega arith, sym e)),
  apart x xs (λ h. none (Contains-append_right (y ∷ []) xs x h)),
)

distinct : (xs : List ℕ) → AreOnce xs → IsDistinct nat_eq xs
unfolding IsDistinct
distinct [] once = tt
distinct (x ∷ xs) once = IsDistinct-cons nat_eq x xs (apart x xs once.0) (distinct xs once.1)

-- places below a number of which none stands twice are at most so many
pub few : (many : ℕ) (xs : List ℕ) → AreOnce xs → ((p : ℕ) → Contains xs p → p < many) → length xs ≤ many
few many xs once low =
    let le = length-le_from_is_member nat_eq_equiv xs (range_with_len 0 many) (distinct xs once)
    (λ q m. (is_member-Decides Decides-eqb (range_with_len 0 many) q).1 (there q (low q ((is_member-Decides Decides-eqb xs q).0 m)))) in
    omega (arith, le, length-range_with_len 0 many)
  where
    there : (q : ℕ) → q < many → Contains (range_with_len 0 many) q
    there q less = (q, omega (arith, less, length-range_with_len 0 many), omega (arith, get_or-range_with_len 0 many q q less))

-- ---- a packet followed so far

pub moves-more : (Is : ℕ → Step → Type 0) (from mid to : ℕ) (places : List ℕ) → AreMoves Is from places mid → Is mid (On to) → AreMoves Is from (places ++ (to ∷ [])) to
moves-more Is from mid to [] p m = (subst (λ (n : ℕ). Is n (On to)) p m, refl)
moves-more Is from mid to (next ∷ places) p m = (p.0, moves-more Is next mid to places p.1 m)

-- it stands at a place, behind those where it was
pub record IsFollowed (Is : ℕ → Step → Type 0) (many from : ℕ) (places : List ℕ) (place : ℕ) : Type 0 where
  pub more : List ℕ
  pub whole : places ++ (place ∷ []) ≡ from ∷ more
  pub moves : AreMoves Is from more place
  pub once : AreOnce (places ++ (place ∷ []))
  pub low : (p : ℕ) → Contains (places ++ (place ∷ [])) p → p < many

pub begins : (Is : ℕ → Step → Type 0) (many from : ℕ) → from < many → IsFollowed Is many from [] from
begins Is many from less = record {
  more = [];
  whole = refl;
  moves = refl;
  once = ((λ h. let l = h.1 in absurd (omega (arith, l))), tt);
  low = λ p h. subst (λ (n : ℕ). n < many) (one-item from p h) less;
}

pub goes : (Is : ℕ → Step → Type 0) (many from : ℕ) (places : List ℕ) (place next : ℕ) → IsFollowed Is many from places place → IsNew Is many (places ++ (place ∷ [])) place next → IsFollowed Is many from (places ++ (place ∷ [])) next
goes Is many from places place next f new = record {
  more = f.more ++ (next ∷ []);
  whole = ap (λ (xs : List ℕ). xs ++ (next ∷ [])) f.whole;
  moves = moves-more Is from place next f.more f.moves new.0;
  once = once-more (places ++ (place ∷ [])) next f.once new.2;
  low = λ p h.
      elim (Contains-append_cases (places ++ (place ∷ [])) (next ∷ []) p h) [
        | inl old ↦ f.low p old
        | inr last ↦ subst (λ (n : ℕ). n < many) (one-item next p last) new.1
      ];
}

pub room : (Is : ℕ → Step → Type 0) (many from : ℕ) (places : List ℕ) (place : ℕ) → IsFollowed Is many from places place → length (places ++ (place ∷ [])) ≤ many
room Is many from places place f = few many (places ++ (place ∷ [])) f.once f.low

pub stands : (Is : ℕ → Step → Type 0) (many from : ℕ) (places : List ℕ) (place : ℕ) → IsFollowed Is many from places place → place < many
stands Is many from places place f = f.low place (Contains-append_right places (place ∷ []) place (0, omega arith, refl))

pub less-left : (n a b : ℕ) → b ≡ a + 1 → b ≤ n → n - b < n - a
less-left n a b e l = omega (arith, e, l)

pub longer : (xs : List ℕ) (x : ℕ) → length (xs ++ (x ∷ [])) ≡ length xs + 1
longer [] x = refl
longer (y ∷ xs) x = let e = longer xs x in omega (arith, e)
