-- Each place of a router belongs to one link, as the last link grows.
use Rattle.std.proofs.Common.{◌≡◌, ℕ, zero, suc, ◌<◌, ◌≤◌, ◌==◌, ◌⊎◌, inl, inr, ⊎_elim, Bool, true, false, List, [], ◌∷◌, ◌++◌, length, Option, Some, None, unwrap_or, if◌then◌else◌, refl, sym, ap, ◌∙◌, subst, arith}
use Rattle.std.proofs.lemmas.Bool.Decides.{nat_tests}
use Rattle.std.specs.List.{AllByRecursion}
use Rattle.model_router.specs.Places.{nth}
use Rattle.model_router.proofs.BookLemmas.{same-or}
use Rattle.model_network.specs.declared.end.End.{End}
use Rattle.model_network.specs.Networks.{place_on, place_in}
use Rattle.network_lab.specs.LabInside.{AreEndsThere, AreWired}
use Rattle.network_lab.proofs.PlaceLemmas.{some-same}
use Rattle.network_lab.proofs.LabLemmas.{first_of, nth-snoc}

on-there : (counts : List ℕ) (ends : List End) (i place : ℕ) → AreEndsThere counts ends → place_on ends i ≡ Some place → place < unwrap_or (nth counts i) 0
on-there counts [] i place h e = absurd (cc)
on-there counts (x ∷ ends) i place h e = same-or (λ t. (if t then Some x.place else place_on ends i) ≡ Some place → place < unwrap_or (nth counts i) 0) x.router i
    (λ s q. subst (λ (p : ℕ). p < unwrap_or (nth counts i) 0) (some-same x.place place q) (subst (λ (k : ℕ). x.place < unwrap_or (nth counts k) 0) s h.0))
    (λ _ q. on-there counts ends i place h.1 q) e

pub in-there : (counts : List ℕ) (links : List (List End)) (k i place : ℕ) → AllByRecursion (AreEndsThere counts) links → place_in (nth links k) i ≡ Some place → place < unwrap_or (nth counts i) 0
in-there counts links k i place h e = of links k h e
  where
    of : (links : List (List End)) (k : ℕ) → AllByRecursion (AreEndsThere counts) links → place_in (nth links k) i ≡ Some place → place < unwrap_or (nth counts i) 0
    of [] k h e = absurd (cc)
    of (x ∷ links) zero h e = on-there counts x i place h.0 e
    of (x ∷ links) (suc k) h e = of links k h.1 e

-- an end is of an old link, or of the new one
pub split : (links : List (List End)) (ends : List End) (l router place : ℕ) → place_in (nth (links ++ (ends ∷ [])) l) router ≡ Some place
    → (place_in (nth links l) router ≡ Some place) ⊎ ((l ≡ length links) × (place_on ends router ≡ Some place))
split links ends l router place e = of (nth links l) (ap (λ (o : Option (List End)). place_in o router) (sym (nth-snoc links ends l)) ∙ e)
  where
    of : (o : Option (List End)) → place_in (first_of o (if length links == l then Some ends else None)) router ≡ Some place → (place_in o router ≡ Some place) ⊎ ((l ≡ length links) × (place_on ends router ≡ Some place))
    of (Some x) e = inl e
    of None e = by (length links == l) refl e
      where
        by : (b : Bool) → (length links == l) ≡ b → place_in (if b then Some ends else None) router ≡ Some place → (place_in None router ≡ Some place) ⊎ ((l ≡ length links) × (place_on ends router ≡ Some place))
        by true t e = inr (grind (arith, nat_tests, t), e)
        by false t e = absurd (cc)

-- the last link has no end yet
pub wired-row : (links : List (List End)) → AreWired links → AreWired (links ++ ([] ∷ []))
wired-row links w = record {
  once = λ link other router place x y. w.once link other router place (old link router place x) (old other router place y);
}
  where
    old : (l router place : ℕ) → place_in (nth (links ++ ([] ∷ [])) l) router ≡ Some place → place_in (nth links l) router ≡ Some place
    old l router place e = ⊎_elim (λ (a : place_in (nth links l) router ≡ Some place). a)
        (λ (b : (l ≡ length links) × (place_on [] router ≡ Some place)). absurd (let q = b.1 in cc)) (split links [] l router place e)

-- an end of the grown link is one of before, or the new one
on-snoc : (row : List End) (e : End) (router place : ℕ) → place_on (row ++ (e ∷ [])) router ≡ Some place → (place_on row router ≡ Some place) ⊎ ((e.router ≡ router) × (e.place ≡ place))
on-snoc [] e router place q = same-or (λ t. (if t then Some e.place else None) ≡ Some place → (place_on [] router ≡ Some place) ⊎ ((e.router ≡ router) × (e.place ≡ place))) e.router router
    (λ s q. inr (s, some-same e.place place q)) (λ _ q. absurd (cc)) q
on-snoc (x ∷ row) e router place q = by (x.router == router) (on-snoc row e router place) q
  where
    by : (t : Bool) → (place_on (row ++ (e ∷ [])) router ≡ Some place → (place_on row router ≡ Some place) ⊎ ((e.router ≡ router) × (e.place ≡ place)))
        → (if t then Some x.place else place_on (row ++ (e ∷ [])) router) ≡ Some place → ((if t then Some x.place else place_on row router) ≡ Some place) ⊎ ((e.router ≡ router) × (e.place ≡ place))
    by true r q = inl q
    by false r q = r q

pub wired-end : (counts : List ℕ) (base : List (List End)) (row : List End) (e : End) → AllByRecursion (AreEndsThere counts) base → unwrap_or (nth counts e.router) 0 ≤ e.place
    → AreWired (base ++ (row ∷ [])) → AreWired (base ++ ((row ++ (e ∷ [])) ∷ []))
wired-end counts base row e there behind w = record {
  once = λ link other router place x y. both link other router place (parts link router place x) (parts other router place y);
}
  where
    New : ℕ → ℕ → ℕ → Type 0
    New l router place = (l ≡ length base) × (e.router ≡ router) × (e.place ≡ place)

    kept : (l router place : ℕ) → place_in (nth base l) router ≡ Some place → place_in (nth (base ++ (row ∷ [])) l) router ≡ Some place
    kept l router place q = ap (λ (o : Option (List End)). place_in o router) (nth-snoc base row l) ∙ of (nth base l) q
      where
        of : (o : Option (List End)) → place_in o router ≡ Some place → place_in (first_of o (if length base == l then Some row else None)) router ≡ Some place
        of None q = absurd (cc)
        of (Some x) q = q

    last : (l router place : ℕ) → l ≡ length base → place_on row router ≡ Some place → place_in (nth (base ++ (row ∷ [])) l) router ≡ Some place
    last l router place s q = ap (λ (n : ℕ). place_in (nth (base ++ (row ∷ [])) n) router) s ∙ (ap (λ (o : Option (List End)). place_in o router) (at-end base row) ∙ q)
      where
        at-end : {A : Type 0} (xs : List A) (y : A) → nth (xs ++ (y ∷ [])) (length xs) ≡ Some y
        at-end [] y = refl
        at-end (x ∷ xs) y = at-end xs y

    parts : (l router place : ℕ) → place_in (nth (base ++ ((row ++ (e ∷ [])) ∷ [])) l) router ≡ Some place → (place_in (nth (base ++ (row ∷ [])) l) router ≡ Some place) ⊎ New l router place
    parts l router place q = ⊎_elim (λ (a : place_in (nth base l) router ≡ Some place). inl (kept l router place a))
        (λ (b : (l ≡ length base) × (place_on (row ++ (e ∷ [])) router ≡ Some place)). ⊎_elim (λ (c : place_on row router ≡ Some place). inl (last l router place b.0 c))
        (λ (d : (e.router ≡ router) × (e.place ≡ place)). inr (b.0, d.0, d.1)) (on-snoc row e router place b.1)) (split base (row ++ (e ∷ [])) l router place q)

    clash : (l other router place : ℕ) → place_in (nth (base ++ (row ∷ [])) l) router ≡ Some place → New other router place → l ≡ other
    clash l other router place q n = ⊎_elim
        (λ (a : place_in (nth base l) router ≡ Some place). absurd (
        let low = in-there counts base l router place there a in
        let high = subst (λ (r : ℕ). unwrap_or (nth counts r) 0 ≤ e.place) n.1 behind in
        let s = n.2 in omega (arith, low, high, s)))
        (λ (b : (l ≡ length base) × (place_on row router ≡ Some place)). b.0 ∙ sym n.0) (split base row l router place q)

    both : (l other router place : ℕ) → (place_in (nth (base ++ (row ∷ [])) l) router ≡ Some place) ⊎ New l router place → (place_in (nth (base ++ (row ∷ [])) other) router ≡ Some place) ⊎ New other router place → l ≡ other
    both l other router place (inl x) (inl y) = w.once l other router place x y
    both l other router place (inl x) (inr y) = clash l other router place x y
    both l other router place (inr x) (inl y) = sym (clash other l router place y x)
    both l other router place (inr x) (inr y) = x.0 ∙ sym y.0
