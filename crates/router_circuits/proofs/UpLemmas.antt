-- Neighbours by SNPA: those Up among all that are heard.
use Rattle.std.proofs.Common.{◌≡◌, ℕ, ◌+◌, ◌≤◌, true, false, Bool, eqb, List, [], ◌∷◌, map, Option, Some, if◌then◌else◌, refl, sym, ap, ◌∙◌, subst, arith}
use Rattle.std.specs.Option.{option_map}
use Rattle.std.specs.List.{AllByRecursion}
use Rattle.std.proofs.lemmas.Bool.Decides.{nat_tests}
use Rattle.model_router.specs.Adjacencies as model
use Rattle.model_router.specs.Maps.{find}
use Rattle.model_router.specs.Receiving.{kept_system, up_system}
use Rattle.model_router.specs.Routers.{LanNeighbour}
use Rattle.model_router.specs.Sorted.{RisesFrom}
use Rattle.adjacency.specs.declared.neighbour.Neighbour.{Neighbour}
use Rattle.ordered.specs.Keyed.{keyed}
use Rattle.ordered.proofs.MapLemmas.{rises-less, find-above}
use Rattle.adjacency.specs.Views.{by_snpa, snpa_of, neighbour_of}
use Rattle.adjacency.specs.Lans.{AreHeard, neighbours, ups}
use Rattle.model_router.specs.Pulls.{snpas_of}
use Rattle.model_router.specs.Both.{Both, at}
use Rattle.isis_base.specs.declared.level.Level.{Level}
use Rattle.isis_base.specs.declared.level.Level.TheVariants as level
use Rattle.router_circuits.specs.declared.timers.Timers.{Timers}
use Rattle.router_circuits.specs.Views.{levels_in}

-- ---- those Up

snpa_in : model.Neighbour → ℕ
snpa_in n = n.snpa

ups-rise : (heard : List (ℕ × LanNeighbour)) (least : ℕ) → RisesFrom least heard → AllByRecursion (λ pair. pair.1.neighbour.snpa ≡ pair.0) heard → RisesFrom least (keyed snpa_in (ups heard))
unfolding snpa_in
ups-rise [] least r s = tt
ups-rise (p ∷ heard) least r s = by p.1.up (ups-rise heard (p.0 + 1) r.1 s.1) where
  by : (t : Bool) → RisesFrom (p.0 + 1) (keyed snpa_in (ups heard)) → RisesFrom least (keyed snpa_in (if t then p.1.neighbour ∷ ups heard else ups heard))
  by true rest = (subst (λ (n : ℕ). least ≤ n) (sym s.0) r.0, subst (λ (n : ℕ). RisesFrom (n + 1) (keyed snpa_in (ups heard))) (sym s.0) rest)
  by false rest = rises-less (p.0 + 1) least (keyed snpa_in (ups heard)) (let h = r.0 in omega (arith, h)) rest

-- the same of the code's neighbours
seen-rise : (ns : List Neighbour) (least : ℕ) → RisesFrom least (keyed snpa_in (map neighbour_of ns)) → RisesFrom least (by_snpa ns)
unfolding snpa_in
seen-rise [] least r = tt
seen-rise (n ∷ ns) least r = (r.0, seen-rise ns (snpa_of n + 1) r.1)

pub up-rises : (up : List Neighbour) (heard : List (ℕ × LanNeighbour)) → AreHeard heard → map neighbour_of up ≡ ups heard → RisesFrom 0 (by_snpa up)
up-rises up heard are e =
    seen-rise up 0 (subst (λ (m : List model.Neighbour). RisesFrom 0 (keyed snpa_in m)) (sym e) (ups-rise heard 0 are.rises are.snpas))

find-seen : (ns : List Neighbour) (k : ℕ) → find (keyed snpa_in (map neighbour_of ns)) k ≡ option_map neighbour_of (find (by_snpa ns) k)
unfolding snpa_in
find-seen [] k = refl
find-seen (n ∷ ns) k = by (eqb (snpa_of n) k) (find-seen ns k) where
  by : (t : Bool) → find (keyed snpa_in (map neighbour_of ns)) k ≡ option_map neighbour_of (find (by_snpa ns) k)
      → (if t then Some (neighbour_of n) else find (keyed snpa_in (map neighbour_of ns)) k) ≡ option_map neighbour_of (if t then Some n else find (by_snpa ns) k)
  by true rest = refl
  by false rest = rest

find-ups : (heard : List (ℕ × LanNeighbour)) (least k boot : ℕ) → RisesFrom least heard → AllByRecursion (λ pair. pair.1.neighbour.snpa ≡ pair.0) heard → kept_system (find (keyed snpa_in (ups heard)) k) boot ≡ up_system (find heard k) boot
unfolding snpa_in
find-ups [] least k boot r s = refl
find-ups (p ∷ heard) least k boot r s =
    by p.1.up (eqb p.0 k) refl refl (find-ups heard (p.0 + 1) k boot r.1 s.1) where
      by : (t u : Bool) → p.1.up ≡ t → eqb p.0 k ≡ u → kept_system (find (keyed snpa_in (ups heard)) k) boot ≡ up_system (find heard k) boot
          → kept_system (find (keyed snpa_in (if t then p.1.neighbour ∷ ups heard else ups heard)) k) boot ≡ up_system (if u then Some p.1 else find heard k) boot
      by true true e f rest = rw (s.0, f, e) refl
      by true false e f rest = rw (s.0, f) rest
      by false true e f rest =
          let same : p.0 ≡ k = grind (arith, nat_tests, f) in
          rw (find-above (keyed snpa_in (ups heard)) (p.0 + 1) k (omega (arith, same)) (ups-rise heard (p.0 + 1) r.1 s.1), e) refl
      by false false e f rest = rest

-- the system of a neighbour Up in a boot, by its SNPA
pub up-system : (up : List Neighbour) (heard : List (ℕ × LanNeighbour)) (k boot : ℕ) → AreHeard heard → map neighbour_of up ≡ ups heard → kept_system (option_map neighbour_of (find (by_snpa up) k)) boot ≡ up_system (find heard k) boot
up-system up heard k boot are e =
    ap (λ (o : Option model.Neighbour). kept_system o boot) (sym (find-seen up k) ∙ ap (λ (m : List model.Neighbour). find (keyed snpa_in m) k) e)
    ∙ find-ups heard 0 k boot are.rises are.snpas

-- ---- the SNPAs of those heard

snpas-seen : (ns : List Neighbour) → map snpa_of ns ≡ map snpa_in (map neighbour_of ns)
unfolding snpa_in
snpas-seen [] = refl
snpas-seen (n ∷ ns) = ap (λ (m : List ℕ). snpa_of n ∷ m) (snpas-seen ns)

snpas-heard : (heard : List (ℕ × LanNeighbour)) → AllByRecursion (λ pair. pair.1.neighbour.snpa ≡ pair.0) heard → map snpa_in (neighbours heard) ≡ snpas_of heard
unfolding snpa_in
snpas-heard [] s = refl
snpas-heard (p ∷ heard) s = rw s.0 (ap (λ (m : List ℕ). p.0 ∷ m) (snpas-heard heard s.1))

pub all-snpas : (ns : List Neighbour) (heard : List (ℕ × LanNeighbour)) → AreHeard heard → map neighbour_of ns ≡ neighbours heard → map snpa_of ns ≡ snpas_of heard
all-snpas ns heard are e = snpas-seen ns ∙ ap (λ (m : List model.Neighbour). map snpa_in m) e ∙ snpas-heard heard are.snpas

pub level-heard : (heard : Both (List (ℕ × LanNeighbour))) (one two : Timers) (l : Level) → (at (levels_in heard one two) l).heard ≡ at heard l
level-heard heard one two level.One = refl
level-heard heard one two level.Two = refl
