-- Places that a packet may come to, as they are found.
use Rattle.std.proofs.Common.{◌≡◌, ◌⊎◌, ◌<◌, ◌≤◌, ℕ, zero, suc, ◌+◌, List, [], ◌∷◌, ◌++◌, length, get_or, Some, refl, sym, ap, ◌∙◌, subst, arith, inl, inr, append-nil, append_assoc}
use Rattle.std.specs.Prelude.{slice_get}
use Rattle.std.specs.List.{Contains}
use Rattle.std.proofs.lemmas.Bool.{cases_lt}
use Rattle.std.proofs.lemmas.List.Elements.{Contains-append_left, Contains-append_right, Contains-append_cases}
use Rattle.trace_core.specs.declared.step.Step.{Step}
use Rattle.trace_core.specs.declared.step.Step.TheVariants.{Home, On, Lost}
use Rattle.trace_core.specs.Traces.{AreMoves, AreOnce, IsInside}
use Rattle.trace_core.specs.Whichever.{may, MayMove}
use Rattle.trace_core.specs.Reaching.{AreBelow, AreReached, IsAdded, IsSpread}
use Rattle.trace_core.proofs.WayLemmas.{moves-more, once-more, few, one-item}

some-same : {A : Type 0} (a b : A) → Some a ≡ Some b → a ≡ b
some-same a b e = cc

on-same : (a b : ℕ) → On a ≡ On b → a ≡ b
on-same a b e = cc

-- ---- places of lists

pub get-there : {X : Type 0} (xs : List X) (k : ℕ) (x : X) → slice_get xs k ≡ Some x → Contains xs x
get-there [] k x e = absurd (cc)
get-there (y ∷ xs) zero x e = (0, omega arith, some-same y x e)
get-there (y ∷ xs) (suc k) x e = Contains-append_right (y ∷ []) xs x (get-there xs k x e)

pub there-get : {X : Type 0} (xs : List X) (x : X) (k : ℕ) → k < length xs → get_or xs k x ≡ x → slice_get xs k ≡ Some x
there-get [] x k low is = absurd (omega (arith, low))
there-get (y ∷ xs) x zero low is = ap (λ z. Some z) is
there-get (y ∷ xs) x (suc k) low is = there-get xs x k (omega (arith, low)) is

get-low : {X : Type 0} (xs : List X) (k : ℕ) (x : X) → slice_get xs k ≡ Some x → k < length xs
get-low [] k x e = absurd (cc)
get-low (y ∷ xs) zero x e = omega arith
get-low (y ∷ xs) (suc k) x e = let l = get-low xs k x e in omega (arith, l)

get-front : {X : Type 0} (xs ys : List X) (k : ℕ) → k < length xs → slice_get (xs ++ ys) k ≡ slice_get xs k
get-front [] ys k low = absurd (omega (arith, low))
get-front (x ∷ xs) ys zero low = refl
get-front (x ∷ xs) ys (suc k) low = get-front xs ys k (omega (arith, low))

-- ---- the places after one

-- by the first so many ways
pub record IsSpreadSo (ways : ℕ → List Step) (many place number : ℕ) (old new : List ℕ) : Type 0 where
  pub more : List ℕ
  pub longer : new ≡ old ++ more
  pub from : (next : ℕ) → Contains more next → may ways place (On next)
  pub here : (k next : ℕ) → k < number → slice_get (ways place) k ≡ Some (On next) → Contains new next
  pub once : AreOnce old → AreOnce new
  pub below : AreBelow many old → AreBelow many new

module _ (ways : ℕ → List Step) (many place : ℕ) where
  pub none-yet : (old : List ℕ) → IsSpreadSo ways many place 0 old old
  none-yet old = record {
    more = [];
    longer = sym (append-nil old);
    from = λ next h. absurd (let l = h.1 in omega (arith, l));
    here = λ k next low. absurd (omega (arith, low));
    once = λ h. h;
    below = λ h. h;
  }

  -- a way that adds nothing
  pub same : (number : ℕ) (old new : List ℕ) (step : Step) → slice_get (ways place) number ≡ Some step → ((next : ℕ) → step ≡ On next → Contains new next) → IsSpreadSo ways many place number old new → IsSpreadSo ways many place (number + 1) old new
  same number old new step at held s = record {
    more = s.more;
    longer = s.longer;
    from = s.from;
    here = λ k next low e. by k next low e;
    once = s.once;
    below = s.below;
  }
    where
      by : (k next : ℕ) → k < number + 1 → slice_get (ways place) k ≡ Some (On next) → Contains new next
      by k next low e = elim (last k low) [ inl less ↦ s.here k next less e | inr is ↦ held next (some-same step (On next) (sym at ∙ subst (λ (n : ℕ). slice_get (ways place) n ≡ Some (On next)) is e)) ]
        where
          last : (n : ℕ) → n < number + 1 → (n < number) ⊎ (n ≡ number)
          last n few' = elim (cases_lt n number) [ inl less ↦ inl less | inr more ↦ inr (omega (arith, few', more)) ]

  -- a way to a place that wasn't found yet
  pub added : (number : ℕ) (old new : List ℕ) (next : ℕ) → slice_get (ways place) number ≡ Some (On next) → next < many → (Contains new next → ⊥) → IsSpreadSo ways many place number old new → IsSpreadSo ways many place (number + 1) old (new ++ (next ∷ []))
  added number old new next at less fresh s =
      same number old (new ++ (next ∷ [])) (On next) at (λ other e. subst (Contains (new ++ (next ∷ []))) (on-one next other e) (Contains-append_right new (next ∷ []) next (0, omega arith, refl))) longer
    where
      on-one : (a b : ℕ) → On a ≡ On b → a ≡ b
      on-one a b e = cc

      longer : IsSpreadSo ways many place number old (new ++ (next ∷ []))
      longer = record {
        more = s.more ++ (next ∷ []);
        longer = ap (λ (xs : List ℕ). xs ++ (next ∷ [])) s.longer ∙ append_assoc old s.more (next ∷ []);
        from = λ other h.
            elim (Contains-append_cases s.more (next ∷ []) other h) [
              | inl m ↦ s.from other m
              | inr m ↦ subst (λ (n : ℕ). may ways place (On n)) (one-item next other m) (get-there (ways place) number (On next) at)
            ];
        here = λ k other low e. Contains-append_left new (next ∷ []) other (s.here k other low e);
        once = λ h. once-more new next (s.once h) fresh;
        below = λ h other c.
            elim (Contains-append_cases new (next ∷ []) other c) [
              | inl m ↦ s.below h other m
              | inr m ↦ subst (λ (n : ℕ). n < many) (one-item next other m) less
            ];
      }

  -- a way more
  pub one-way : (number : ℕ) (old new newer : List ℕ) (step : Step) → slice_get (ways place) number ≡ Some step → IsInside many step → IsAdded step new newer → IsSpreadSo ways many place number old new → IsSpreadSo ways many place (number + 1) old newer
  one-way number old new newer Home at inside e s = subst (λ (xs : List ℕ). IsSpreadSo ways many place (number + 1) old xs) (sym e) (same number old new Home at (λ next h. absurd (cc)) s)
  one-way number old new newer (On next) at inside (inl (there, e)) s =
      subst (λ (xs : List ℕ). IsSpreadSo ways many place (number + 1) old xs) (sym e) (same number old new (On next) at (λ other h. subst (Contains new) (on-same next other h) there) s)
  one-way number old new newer (On next) at inside (inr (fresh, e)) s =
      subst (λ (xs : List ℕ). IsSpreadSo ways many place (number + 1) old xs) (sym e) (added number old new next at inside fresh s)
  one-way number old new newer Lost at inside e s = subst (λ (xs : List ℕ). IsSpreadSo ways many place (number + 1) old xs) (sym e) (same number old new Lost at (λ next h. absurd (cc)) s)

  pub whole : (old new : List ℕ) (number : ℕ) → length (ways place) ≤ number → IsSpreadSo ways many place number old new → IsSpread ways many place old new
  whole old new number all s = record {
    more = s.more;
    longer = s.longer;
    from = s.from;
    here = λ next h. s.here h.0 next (let l = h.1 in omega (arith, all, l)) (there-get (ways place) (On next) h.0 h.1 h.2);
    once = s.once;
    below = s.below;
  }

-- ---- all places

-- those found, of which the first so many were spread from
pub record IsReaching (ways : ℕ → List Step) (many from : ℕ) (found : List ℕ) (done : ℕ) : Type 0 where
  pub sound : (place : ℕ) → Contains found place → MayMove ways from place
  pub first : (next : ℕ) → may ways from (On next) → Contains found next
  pub closed : (k place next : ℕ) → k < done → slice_get found k ≡ Some place → may ways place (On next) → Contains found next
  pub once : AreOnce found
  pub below : AreBelow many found

module _ (ways : ℕ → List Step) (many from : ℕ) where
  pub begins : (found : List ℕ) → IsSpread ways many from [] found → IsReaching ways many from found 0
  begins found s = record {
    sound = λ place h. (place, [], (s.from place (subst (λ (xs : List ℕ). Contains xs place) s.longer h), refl));
    first = s.here;
    closed = λ k place next low. absurd (omega (arith, low));
    once = s.once tt;
    below = s.below (λ place h. absurd (let l = h.1 in omega (arith, l)));
  }

  pub goes : (found new : List ℕ) (done place : ℕ) → slice_get found done ≡ Some place → IsSpread ways many place found new → IsReaching ways many from found done → IsReaching ways many from new (done + 1)
  goes found new done place at s r = record {
    sound = λ other h.
        elim (Contains-append_cases found s.more other (subst (λ (xs : List ℕ). Contains xs other) s.longer h)) [
          | inl old ↦ r.sound other old
          | inr more ↦ farther other (s.from other more)
        ];
    first = λ next m. kept next (r.first next m);
    closed = λ k other next low e m. by k other next low e m;
    once = s.once r.once;
    below = s.below r.below;
  }
    where
      kept : (other : ℕ) → Contains found other → Contains new other
      kept other h = subst (λ (xs : List ℕ). Contains xs other) (sym s.longer) (Contains-append_left found s.more other h)

      farther : (other : ℕ) → may ways place (On other) → MayMove ways from other
      farther other m =
          let f = r.sound place (get-there found done place at) in
          (f.0, f.1 ++ (other ∷ []), moves-more (may ways) from place other (f.0 ∷ f.1) f.2 m)

      less : done < length found
      less = get-low found done place at

      old-at : (k other : ℕ) → k < done + 1 → slice_get new k ≡ Some other → slice_get found k ≡ Some other
      old-at k other low e = sym (get-front found s.more k (omega (arith, low, less))) ∙ subst (λ (xs : List ℕ). slice_get xs k ≡ Some other) s.longer e

      by : (k other next : ℕ) → k < done + 1 → slice_get new k ≡ Some other → may ways other (On next) → Contains new next
      by k other next low e m = elim (last k low) [ inl few' ↦ kept next (r.closed k other next few' (old-at k other low e) m) | inr is ↦ s.here next (subst (λ (p : ℕ). may ways p (On next)) (some-same other place (sym (old-at k other low e) ∙ ap (slice_get found) is ∙ at)) m) ]
        where
          last : (n : ℕ) → n < done + 1 → (n < done) ⊎ (n ≡ done)
          last n under = elim (cases_lt n done) [ inl less' ↦ inl less' | inr more ↦ inr (omega (arith, under, more)) ]

  pub ends : (found : List ℕ) (done : ℕ) → length found ≤ done → IsReaching ways many from found done → AreReached ways many from found
  ends found done all r = record {
    all = λ place. (r.sound place, λ m. onward m.0 place (r.first m.0 m.2.0) m.1 m.2.1);
    below = r.below;
  }
    where
      onward : (place last : ℕ) → Contains found place → (places : List ℕ) → AreMoves (may ways) place places last → Contains found last
      onward place last h [] m = subst (Contains found) (sym m) h
      onward place last h (next ∷ places) m =
          onward next last (r.closed h.0 place next (let l = h.1 in omega (arith, l, all)) (there-get found place h.0 h.1 h.2) m.0) places m.1

  pub room : (found : List ℕ) (done : ℕ) → IsReaching ways many from found done → length found ≤ many
  room found done r = few many found r.once r.below
