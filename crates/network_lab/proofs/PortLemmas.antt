-- The links of a router's circuits: its place on each.
use Rattle.std.proofs.Common.{◌≡◌, ◌≢◌, ℕ, suc, ◌+◌, ◌==◌, ◌&&◌, ◌||◌, ◌⊎◌, inl, inr, Bool, true, false, List, [], ◌∷◌, map, Some, if◌then◌else◌, refl, sym, ap, ◌∙◌, subst, arith}
use Rattle.std.proofs.lemmas.Bool.Decides.{eqb_tells}
use Rattle.std.specs.List.{AllByRecursion}
use Rattle.model_router.specs.Places.{nth}
use Rattle.model_network.specs.declared.end.End.{End}
use Rattle.model_network.specs.Networks.{place_on, place_in}
use Rattle.model_network.specs.RunLines.{is_end, link_of}
use Rattle.network_lab.specs.LabInside.{AreApart, ArePorts}
use Rattle.network_lab.specs.Claims.{AreLinksOf}
use Rattle.network_lab.proofs.PlaceLemmas.{some-same}

-- a router that isn't among the ends has no place there
no-end : (ends : List End) (router place : ℕ) → AllByRecursion (λ (j : ℕ). router ≢ j) (map (λ (e : End). e.router) ends) → is_end router place ends ≡ false
no-end [] router place h = refl
no-end (x ∷ ends) router place h = by (no-end ends router place h.1) (eqb_tells x.router router)
  where
    by : is_end router place ends ≡ false → (((x.router == router) ≡ true) × (x.router ≡ router)) ⊎ (((x.router == router) ≡ false) × (x.router ≢ router)) → is_end router place (x ∷ ends) ≡ false
    by rest (inl s) = absurd (h.0 (sym s.1))
    by rest (inr n) = ap (λ (b : Bool). (b && x.place == place) || is_end router place ends) n.0 ∙ rest

-- an end is where the router is found, since no router is there twice
on-ends : (ends : List End) (router place : ℕ) → AreApart ends → is_end router place ends ≡ true → place_on ends router ≡ Some place
on-ends [] router place h e = absurd (cc)
on-ends (x ∷ ends) router place h e = by (on-ends ends router place h.1) (eqb_tells x.router router)
  where
    by : (is_end router place ends ≡ true → place_on ends router ≡ Some place) → (((x.router == router) ≡ true) × (x.router ≡ router)) ⊎ (((x.router == router) ≡ false) × (x.router ≢ router)) → (if x.router == router then Some x.place else place_on ends router) ≡ Some place
    by rest (inr n) =
        ap (λ (b : Bool). if b then Some x.place else place_on ends router) n.0
        ∙ rest (subst (λ (b : Bool). ((b && x.place == place) || is_end router place ends) ≡ true) n.0 e)
    by rest (inl s) = ap (λ (b : Bool). if b then Some x.place else place_on ends router) s.0 ∙ ap Some (at (eqb_tells x.place place))
      where
        none : is_end router place ends ≡ false
        none = no-end ends router place (subst (λ (r : ℕ). AllByRecursion (λ (j : ℕ). r ≢ j) (map (λ (e : End). e.router) ends)) s.1 h.0)

        at : (((x.place == place) ≡ true) × (x.place ≡ place)) ⊎ (((x.place == place) ≡ false) × (x.place ≢ place)) → x.place ≡ place
        at (inl same) = same.1
        at (inr other) = absurd (contra
            (sym (ap (λ (b : Bool). b || is_end router place ends) (ap (λ (b : Bool). b && x.place == place) s.0 ∙ other.0) ∙ none) ∙ e))
          where
            contra : false ≡ true → ⊥
            contra c = cc

-- so many links behind the first
on-link : (links : List (List End)) (router place from link : ℕ) → AllByRecursion AreApart links → link_of router place from links ≡ Some link → (n : ℕ) × (link ≡ from + n) × (place_in (nth links n) router ≡ Some place)
on-link [] router place from link apart e = absurd (cc)
on-link (ends ∷ links) router place from link apart e = by (is_end router place ends) refl e (on-link links router place (from + 1) link apart.1)
  where
    by : (b : Bool) → is_end router place ends ≡ b → (if b then Some from else link_of router place (from + 1) links) ≡ Some link
        → (link_of router place (from + 1) links ≡ Some link → (n : ℕ) × (link ≡ from + 1 + n) × (place_in (nth links n) router ≡ Some place))
        → (n : ℕ) × (link ≡ from + n) × (place_in (nth (ends ∷ links) n) router ≡ Some place)
    by true t q rest = (0, (let s = some-same from link q in omega (arith, s)), on-ends ends router place apart.0 t)
    by false t q rest = (suc (rest q).0, (let s = (rest q).1 in omega (arith, s)), (rest q).2)

pub links-of : (ports : List (List ℕ)) (links : List (List End)) (router : ℕ) (list : List ℕ) → ArePorts ports links → AllByRecursion AreApart links → nth ports router ≡ Some list → AreLinksOf links router list
links-of ports links router list are apart at place link e = by (on-link links router place 0 link apart (are.each router list at place ∙ e))
  where
    by : (n : ℕ) × (link ≡ 0 + n) × (place_in (nth links n) router ≡ Some place) → place_in (nth links link) router ≡ Some place
    by x = ap (λ (n : ℕ). place_in (nth links n) router) (same x.0 x.1) ∙ x.2
      where
        same : (n : ℕ) → link ≡ 0 + n → link ≡ n
        same n q = omega (arith, q)
