-- What is claimed of the links of a network, and of the routers that they join (ISO 10589 7.3.17, RFC 5303
-- 3.2; the words: own).
use Rattle.std.specs.Prelude.{◌≡◌, ◌≢◌, ℕ, ◌<◌, true, List, [], ◌∷◌, length, Some}
use Rattle.std.specs.List.{AllByRecursion}
use Rattle.isis_base.specs.declared.level.Level.{Level}
use Rattle.model_router.specs.Places.{nth}
use Rattle.model_router.specs.Routers.{Router}
use Rattle.model_router.specs.AdjacencyLaws.{is_point}
use Rattle.model_network.specs.declared.end.End.{End}
use Rattle.model_network.specs.Networks.{place_in}
use Rattle.model_network.specs.Ports.{Port}
use Rattle.model_network.specs.Links.{IsUp}
use Rattle.model_network.specs.Kept.{IsClaimedOf}
use Rattle.network_lab.specs.LabNets.{Seen}
use Rattle.network_lab.specs.Agreements.{AreAgreeing, AreSweptAlike, HaveOneBody}

-- a point-to-point link of two routers that is up at a level (own)
pub record IsUpLink (s : Seen) (link : ℕ) (e f : Port) (a b : Router) (level : Level) : Type 0 where
  pub ends : nth s.links link ≡ Some (record { router = e.router; place = e.place }
      ∷ record { router = f.router; place = f.place } ∷ [])
  pub apart : e.router ≢ f.router
  pub near : nth s.routers e.router ≡ Some a
  pub far : nth s.routers f.router ≡ Some b
  pub near_system : e.system ≡ a.config.system
  pub far_system : f.system ≡ b.config.system
  pub near_point : is_point (nth a.circuits e.place) ≡ true
  pub far_point : is_point (nth b.circuits f.place) ≡ true
  pub up : IsUp e a f b level

-- where nothing was injected, each end of every link that is up names the other, and what one end
-- holds the other holds as new or newer, or its SRM flag stands; so no end is ahead in more LSP IDs
-- than its flags (own)
abbrev pub AreClaimed : Seen → Type 0
AreClaimed s = s.injected ≡ 0 → (link : ℕ) (e f : Port) (a b : Router) (level : Level)
    → IsUpLink s link e f a b level → IsClaimedOf e f a b level

-- what is claimed of links, that routers of one group agree, and members of LANs with those that sweep
-- them, and that what is held under one number is the same (own)
pub record IsClaimed (s : Seen) : Type 0 where
  pub links : AreClaimed s
  pub groups : AreAgreeing s
  pub sweeps : AreSweptAlike s
  pub bodies : HaveOneBody s

-- an end of a link is there: its router, and the router's circuit (own)
pub record IsEndIn (routers : List Router) (e : End) : Type 0 where
  pub r : Router
  pub at : nth routers e.router ≡ Some r
  pub there : e.place < length r.circuits

-- each end of each link is there (own)
abbrev pub AreEnds : Seen → Type 0
AreEnds s = (link : ℕ) (ends : List End) → nth s.links link ≡ Some ends
    → AllByRecursion (IsEndIn s.routers) ends

-- these are the links of a router's circuits, in order (own)
abbrev pub AreLinksOf : List (List End) → ℕ → List ℕ → Type 0
AreLinksOf links router ports =
    (place link : ℕ) → nth ports place ≡ Some link → place_in (nth links link) router ≡ Some place

-- a router's place belongs to one link (own)
abbrev pub HaveOneLink : List (List End) → Type 0
HaveOneLink links =
    (link other router place : ℕ) → place_in (nth links link) router ≡ Some place
    → place_in (nth links other) router ≡ Some place → link ≡ other
