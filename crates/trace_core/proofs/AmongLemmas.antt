-- Lists of places searched from their beginning.
use Rattle.std.proofs.Common.{◌≡◌, ◌⊎◌, ◌<◌, ◌≤◌, ℕ, Bool, false, zero, suc, ◌+◌, ◌-◌, List, [], ◌∷◌, ◌++◌, length, get_or, Some, inl, inr, sym, ◌∙◌, subst, arith}
use Rattle.std.specs.Prelude.{slice_get, IsTrue}
use Rattle.std.specs.List.{Contains}
use Rattle.std.proofs.lemmas.Bool.{cases_lt}
use Rattle.std.proofs.lemmas.List.Elements.{Contains-append_left, Contains-append_right, Contains-append_cases}
use Rattle.trace_core.specs.declared.step.Step.{Step}
use Rattle.trace_core.specs.Traces.{AreMoves}
use Rattle.trace_core.specs.Whichever.{may, MayCome, MayMove, MayEnd, MayLoop}
use Rattle.trace_core.specs.Reaching.{AreBelow, AreReached, EndsAmong, LoopsAmong}
use Rattle.trace_core.proofs.WayLemmas.{one-item}
use Rattle.trace_core.proofs.ReachLemmas.{there-get}

some-same : {A : Type 0} (a b : A) → Some a ≡ Some b → a ≡ b
some-same a b e = cc

pub get-at : {X : Type 0} (xs : List X) (k : ℕ) (d : X) → k < length xs → slice_get xs k ≡ Some (get_or xs k d)
get-at [] k d low = absurd (omega (arith, low))
get-at (x ∷ xs) zero d low = λ i. Some x
get-at (x ∷ xs) (suc k) d low = get-at xs k d (omega (arith, low))

pub not-so : (b : Bool) → b ≡ false → IsTrue b → ⊥
not-so b e h = absurd (cc)

pub fewer : (n a : ℕ) → a < n → n - (a + 1) < n - a
fewer n a less = omega (arith, less)

-- nor is the next
pub none-more : {X : Type 0} (xs : List X) (P : X → Type 0) (at : ℕ) (x : X) → slice_get xs at ≡ Some x → (P x → ⊥) → ((k : ℕ) (y : X) → k < at → slice_get xs k ≡ Some y → P y → ⊥) → (k : ℕ) (y : X) → k < at + 1 → slice_get xs k ≡ Some y → P y → ⊥
none-more {X} xs P at x is not none k y low e p = elim (last k low) [ inl less ↦ none k y less e p | inr here ↦ not (subst P (sym (some-same x y (sym is ∙ subst (λ (n : ℕ). slice_get xs n ≡ Some y) here e))) p) ]
  where
    last : (n : ℕ) → n < at + 1 → (n < at) ⊎ (n ≡ at)
    last n under = elim (cases_lt n at) [ inl less ↦ inl less | inr more ↦ inr (omega (arith, under, more)) ]

-- none of them all
pub none-at-all : {X : Type 0} (xs : List X) (P : X → Type 0) (at : ℕ) → length xs ≤ at → ((k : ℕ) (y : X) → k < at → slice_get xs k ≡ Some y → P y → ⊥) → (x : X) → Contains xs x → P x → ⊥
none-at-all xs P at all none x h p = none h.0 x (let l = h.1 in omega (arith, l, all)) (there-get xs x h.0 h.1 h.2) p

-- ---- those that a packet may come to, and the one where it begins

module _ (ways : ℕ → List Step) (many from : ℕ) (found : List ℕ) (r : AreReached ways many from found) where
  pub all-below : from < many → AreBelow many (found ++ (from ∷ []))
  all-below less place h =
      elim (Contains-append_cases found (from ∷ []) place h) [
        | inl m ↦ r.below place m
        | inr m ↦ subst (λ (n : ℕ). n < many) (one-item from place m) less
      ]

  come : (place : ℕ) → Contains (found ++ (from ∷ [])) place → MayCome ways from place
  come place h =
      elim (Contains-append_cases found (from ∷ []) place h) [
        | inl m ↦ moved ((r.all place).0 m)
        | inr m ↦ ([], sym (one-item from place m))
      ]
    where
      moved : MayMove ways from place → MayCome ways from place
      moved m = (m.0 ∷ m.1, m.2)

  there : (place : ℕ) (places : List ℕ) → AreMoves (may ways) from places place → Contains (found ++ (from ∷ [])) place
  there place [] m = Contains-append_right found (from ∷ []) place (0, omega arith, sym m)
  there place (next ∷ places) m = Contains-append_left found (from ∷ []) place ((r.all place).1 (next, places, m))

  pub may-end : (end : Step) → (EndsAmong ways (found ++ (from ∷ [])) end → MayEnd ways from end) × (MayEnd ways from end → EndsAmong ways (found ++ (from ∷ [])) end)
  may-end end = (λ h. (h.0, come h.0 h.1, h.2), λ h. (h.0, there h.0 h.1.0 h.1.1, h.2))

  pub may-loop : (LoopsAmong ways (found ++ (from ∷ [])) → MayLoop ways from) × (MayLoop ways from → LoopsAmong ways (found ++ (from ∷ [])))
  may-loop = (λ h. (h.0, come h.0 h.1, h.2), λ h. (h.0, there h.0 h.1.0 h.1.1, h.2))
