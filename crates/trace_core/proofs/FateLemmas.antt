-- What an end says of all moves.
use Rattle.std.proofs.Common.{◌≡◌, ℕ, zero, suc, List, [], ◌∷◌, ◌++◌, Some, refl, sym, ap, ◌∙◌, subst, arith}
use Rattle.std.specs.Prelude.{slice_get}
use Rattle.std.specs.List.{Contains}
use Rattle.std.proofs.lemmas.List.Elements.{Contains-append_right}
use Rattle.trace_core.specs.declared.step.Step.{Step}
use Rattle.trace_core.specs.declared.step.Step.TheVariants.{Home, On, Lost}
use Rattle.trace_core.specs.declared.step.End.{End}
use Rattle.trace_core.specs.declared.step.End.TheVariants as ended
use Rattle.trace_core.specs.declared.step.Traced.{Traced}
use Rattle.trace_core.specs.Traces.{AreMoves, IsEnd, IsTraced, by}
use Rattle.trace_core.specs.Fates.{EndsAt, NeverEnds, IsFateOf, IsFate}

on-one : (a b : ℕ) → On a ≡ On b → a ≡ b
on-one a b e = cc

home-on : (n : ℕ) → Home ≡ On n → ⊥
home-on n e = cc

lost-on : (n : ℕ) → Lost ≡ On n → ⊥
lost-on n e = cc

there : (xs : List ℕ) (i x : ℕ) → slice_get xs i ≡ Some x → Contains xs x
there [] i x e = absurd (cc)
there (y ∷ xs) zero x e = (0, omega arith, some e)
  where
    some : Some y ≡ Some x → y ≡ x
    some k = cc
there (y ∷ xs) (suc i) x e = Contains-append_right (y ∷ []) xs x (there xs i x e)

-- where no step leads on, all moves are some of those to there
only : (step : ℕ → Step) (from last : ℕ) (more : List ℕ) → AreMoves (by step) from more last → ((n : ℕ) → step last ≡ On n → ⊥) → (some : List ℕ) (to : ℕ) → AreMoves (by step) from some to → (rest : List ℕ) × (more ≡ some ++ rest)
only step from last [] m ends [] to s = ([], refl)
only step from last [] m ends (n ∷ some) to s = absurd (ends n (subst (λ (p : ℕ). step p ≡ On n) (sym m) s.0))
only step from last (x ∷ more) m ends [] to s = (x ∷ more, refl)
only step from last (x ∷ more) m ends (n ∷ some) to s =
    let e : x ≡ n = on-one x n (sym m.0 ∙ s.0) in
    let r = only step n last more (subst (λ (p : ℕ). AreMoves (by step) p more last) e m.1) ends some to s.1 in
    (r.0, ap (λ (p : ℕ). p ∷ more) e ∙ ap (λ (ps : List ℕ). n ∷ ps) r.1)

only-end : (step : ℕ → Step) (from : ℕ) (traced : Traced) (is : Step) (t : IsTraced (by step) from traced) → step t.last ≡ is → ((n : ℕ) → is ≡ On n → ⊥) → EndsAt step from traced.places.items is
only-end step from traced is t said on = record {
  more = t.more;
  last = t.last;
  places_are = t.places_are;
  moves = t.moves;
  ends = said;
  only = only step from t.last t.more t.moves (λ n e. on n (sym said ∙ e));
}

-- each of the places leads to one of them
each : (step : ℕ → Step) (all : List ℕ) (from last next : ℕ) (more : List ℕ) → AreMoves (by step) from more last → ((p : ℕ) → Contains (from ∷ more) p → Contains all p) → step last ≡ On next → Contains all next
    → (p : ℕ) → Contains (from ∷ more) p → (n : ℕ) × (step p ≡ On n) × Contains all n
each step all from last next [] m in' on back p (zero, low, is) = (next, subst (λ (q : ℕ). step q ≡ On next) (m ∙ is) on, back)
each step all from last next [] m in' on back p (suc k, low, is) = absurd (omega (arith, low))
each step all from last next (x ∷ more) m in' on back p (zero, low, is) = (x, subst (λ (q : ℕ). step q ≡ On x) is m.0, in' x (1, omega arith, refl))
each step all from last next (x ∷ more) m in' on back p (suc k, low, is) =
    each step all x last next more m.1 (λ q h. in' q (Contains-append_right (from ∷ []) (x ∷ more) q h)) on back p (k, omega (arith, low), is)

held : (step : ℕ → Step) (all : List ℕ) → ((p : ℕ) → Contains all p → (n : ℕ) × (step p ≡ On n) × Contains all n) → (some : List ℕ) (from to : ℕ) → Contains all from → AreMoves (by step) from some to → Contains all to
held step all goes [] from to has m = subst (λ (q : ℕ). Contains all q) (sym m) has
held step all goes (n ∷ some) from to has m =
    let g = goes from has in
    let e : g.0 ≡ n = on-one g.0 n (sym g.1 ∙ m.0) in
    held step all goes some n to (subst (λ (q : ℕ). Contains all q) e g.2) m.1

endless : (step : ℕ → Step) (from : ℕ) (traced : Traced) (t : IsTraced (by step) from traced) (next : ℕ) → Contains traced.places.items next → step t.last ≡ On next → NeverEnds step from traced.places.items
endless step from traced t next back on = record {
  goes_on = λ some to m.
      let has = held step traced.places.items goes some from to first m in
      let g = goes to has in
      (has, (g.0, g.1));
}
  where
    first : Contains traced.places.items from
    first = subst (λ (ps : List ℕ). Contains ps from) (sym t.places_are) (0, omega arith, refl)

    goes : (p : ℕ) → Contains traced.places.items p → (n : ℕ) × (step p ≡ On n) × Contains traced.places.items n
    goes p h = each step traced.places.items from t.last next t.more t.moves (λ q k. subst (λ (ps : List ℕ). Contains ps q) (sym t.places_are) k) on back p (subst (λ (ps : List ℕ). Contains ps p) t.places_are h)

fate-by : (step : ℕ → Step) (from : ℕ) (traced : Traced) (t : IsTraced (by step) from traced) (end : End) → IsEnd (by step) traced.places.items t.last end → IsFateOf step from traced.places.items end
fate-by step from traced t ended.Arrives e = only-end step from traced Home t e home-on
fate-by step from traced t ended.Lost e = only-end step from traced Lost t e lost-on
fate-by step from traced t (ended.Loops back) e = endless step from traced t e.0 (there traced.places.items back e.0 e.1) e.2

pub fate : (step : ℕ → Step) (from : ℕ) (traced : Traced) → IsTraced (by step) from traced → IsFate step from traced
fate step from traced t = fate-by step from traced t traced.end t.ends
