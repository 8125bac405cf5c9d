-- Who is designated among those Up.
use Rattle.std.proofs.Common.{◌≡◌, ℕ, suc, ◌+◌, ◌<◌, true, false, Bool, not, ◌&&◌, ◌||◌, eqb, length, List, [], ◌∷◌, map, drop, get_or, drop-cons, Option, Some, None, if◌then◌else◌, refl, sym, ap, ◌∙◌, arith}
use Rattle.std.specs.Option.{option_map}
use Rattle.std.proofs.lemmas.Bool.Decides.{nat_tests}
use Rattle.isis_base.specs.declared.level.Level.{Level}
use Rattle.model_router.specs.Adjacencies as model
use Rattle.model_router.specs.Both.{at}
use Rattle.model_router.specs.Configs.{Config}
use Rattle.model_router.specs.Routers.{LanNeighbour, Circuit, some_up}
use Rattle.model_router.specs.Elections as elections
use Rattle.adjacency.specs.Lans.{ups}
use Rattle.adjacency.specs.Views.{neighbour_of}
use Rattle.adjacency.specs.declared.neighbour.Neighbour.{Neighbour}
use Rattle.router_circuits.specs.Elections.{better, elect, system_and_lan}

is_some_in : List model.Neighbour → Bool
is_some_in [] = false
is_some_in (n ∷ ns) = true

some-ups : (heard : List (ℕ × LanNeighbour)) → some_up heard ≡ is_some_in (ups heard)
unfolding is_some_in
some-ups [] = refl
some-ups (p ∷ heard) = by p.1.up (some-ups heard) where
  by : (t : Bool) → some_up heard ≡ is_some_in (ups heard) → (t || some_up heard) ≡ is_some_in (if t then p.1.neighbour ∷ ups heard else ups heard)
  by true rest = refl
  by false rest = rest

is_some_seen : (up : List Neighbour) (heard : List (ℕ × LanNeighbour)) → map neighbour_of up ≡ ups heard → some_up heard ≡ is_some_in (map neighbour_of up)
is_some_seen up heard e = some-ups heard ∙ ap is_some_in (sym e)

pub up-none : (heard : List (ℕ × LanNeighbour)) → map neighbour_of [] ≡ ups heard → some_up heard ≡ false
unfolding is_some_in
up-none heard e = is_some_seen [] heard e

pub up-some : (n : Neighbour) (up : List Neighbour) (heard : List (ℕ × LanNeighbour)) → map neighbour_of (n ∷ up) ≡ ups heard → some_up heard ≡ true
unfolding is_some_in
up-some n up heard e = is_some_seen (n ∷ up) heard e

-- whether some are Up
pub some-up : (up : List Neighbour) (heard : List (ℕ × LanNeighbour)) → map neighbour_of up ≡ ups heard → not (eqb (length up) 0) ≡ some_up heard
some-up [] heard e = sym (up-none heard e)
some-up (n ∷ up) heard e = grind (arith, nat_tests, up-some n up heard e)

pub elect-ups : (best : elections.Candidate) (heard : List (ℕ × LanNeighbour)) → elections.elect best heard ≡ elect best (ups heard)
unfolding elect
elect-ups best [] = refl
elect-ups best (p ∷ heard) = by p.1.up refl (elect-ups (better best p.1.neighbour) heard) (elect-ups best heard) where
  by : (t : Bool) → p.1.up ≡ t → elections.elect (better best p.1.neighbour) heard ≡ elect (better best p.1.neighbour) (ups heard)
      → elections.elect best heard ≡ elect best (ups heard)
      → elections.elect best (p ∷ heard) ≡ elect best (if t then p.1.neighbour ∷ ups heard else ups heard)
  by true e one other = rw e one
  by false e one other = rw e other

elect-cons : (best : elections.Candidate) (n : model.Neighbour) (ns : List model.Neighbour) → elect best (n ∷ ns) ≡ elect (better best n) ns
unfolding elect
elect-cons best n ns = refl

-- a neighbour more
pub elect-step : (best next : elections.Candidate) (up : List Neighbour) (i : ℕ) (d : Neighbour) → i < length up
    → next ≡ better best (neighbour_of (get_or up i d))
    → elect next (map neighbour_of (drop (i + 1) up)) ≡ elect best (map neighbour_of (drop i up))
elect-step best next up i d lt e =
    let s : i + 1 ≡ suc i = omega arith in
    let cons : drop i up ≡ get_or up i d ∷ drop (i + 1) up = rw s (drop-cons up i d lt) in
    rw (cons, e) (sym (elect-cons best (neighbour_of (get_or up i d)) (map neighbour_of (drop (i + 1) up))))

-- whether the one that is designated is oneself
pub is_own-some : (config : Config) (o : Option elections.Candidate) (system lan : ℕ) → Some (system, lan) ≡ option_map system_and_lan o → elections.is_own config o ≡ eqb system config.system
is_own-some config None system lan e = absurd (grind (arith, e))
is_own-some config (Some c) system lan e = ap (λ (p : Option (ℕ × ℕ)). eqb (first_of p) config.system) (sym e) where
  first_of : Option (ℕ × ℕ) → ℕ
  first_of None = 0
  first_of (Some p) = p.0

pub is_own-none : (config : Config) (o : Option elections.Candidate) → None ≡ option_map system_and_lan o → elections.is_own config o ≡ false
is_own-none config None e = refl
is_own-none config (Some c) e = absurd (grind (arith, e))

pub designated-some : (config : Config) (place : ℕ) (c : Circuit) (level : Level) → c.lan ≡ true → some_up (at c.levels level).heard ≡ true → elections.designated config place c level ≡ Some (elect (elections.oneself config place c) (ups (at c.levels level).heard))
designated-some config place c level lan up = rw (lan, up) (ap Some (elect-ups (elections.oneself config place c) (at c.levels level).heard))

pub designated-none : (config : Config) (place : ℕ) (c : Circuit) (level : Level) → c.lan ≡ false → elections.designated config place c level ≡ None
designated-none config place c level lan = rw lan refl

pub designated-nobody : (config : Config) (place : ℕ) (c : Circuit) (level : Level) → some_up (at c.levels level).heard ≡ false → elections.designated config place c level ≡ None
designated-nobody config place c level up = by c.lan where
  by : (t : Bool) → (if t && some_up (at c.levels level).heard then Some (elections.elect (elections.oneself config place c) (at c.levels level).heard) else None) ≡ None
  by true = rw up refl
  by false = refl
