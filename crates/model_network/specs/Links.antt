-- What is kept of one point-to-point link, and what is claimed of it (ISO 10589 7.3.17, RFC 5303
-- 3.2; the words: own).
use Rattle.std.specs.Prelude.{◌≡◌, ◌≢◌, ℕ, ◌≤◌, true, ◌⊎◌, List, [], ◌∷◌, Some}
use Rattle.isis_tlv.specs.declared.three_way.Adj.TheVariants.{Up}
use Rattle.isis_base.specs.declared.level.Level.{Level}
use Rattle.model_router.specs.Places.{nth}
use Rattle.model_router.specs.Books.{rank_at, srm_at}
use Rattle.model_router.specs.Routers.{Router, book_of}
use Rattle.model_router.specs.AdjacencyLaws.{opens, is_point, FollowsAdjacencies, bond_at, tie_at}
use Rattle.model_router.specs.Sorted.{IsSorted}
use Rattle.model_router.specs.ReplyLaws.{IsHeld}
use Rattle.model_router.specs.Flooding.{Stands, IsKept}
use Rattle.model_network.specs.Networks.{Datagram, Network, place_at}
use Rattle.model_network.specs.Speakers.{IsLegible, NotLan}
use Rattle.model_network.specs.Ports.{Port, name_of, In, Hellos, Uncrossed}

-- ---- what is kept

-- a router by itself: it has its system ID, its books follow its adjacencies and are in order, and
-- the end is point-to-point (own)
pub record IsSound (e : Port) (a : Router) : Type 0 where
  pub system : a.config.system ≡ e.system
  pub touch : FollowsAdjacencies a
  pub sorted : IsSorted a
  pub point : is_point (nth a.circuits e.place) ≡ true

-- What a router sent: in its own name, in no later boot, of what it holds where in its present
-- boot, and on the link legible and no LAN hello (own).
pub record IsSent (e : Port) (a : Router) (link : ℕ) (ds : List Datagram) : Type 0 where
  pub system : (d : Datagram) → In d ds → d.sender ≡ e.router → d.config.system ≡ e.system
  pub boot : (d : Datagram) → In d ds → d.sender ≡ e.router → d.boot ≤ a.boot
  pub held : (d : Datagram) → In d ds → d.sender ≡ e.router → d.boot ≡ a.boot → IsHeld a d.says
  pub legible : (d : Datagram) → In d ds → d.sender ≡ e.router → d.link ≡ link → IsLegible d
  pub point : (d : Datagram) → In d ds → d.sender ≡ e.router → d.link ≡ link → NotLan d.says

-- an end that names the other's present boot stands to it (own)
pub record IsStanding (e : Port) (a : Router) (f : Port) (b : Router) : Type 0 where
  pub stands : (bond_at a e.place).names ≡ Some (name_of f b.boot) → (level : Level) (id : ℕ)
      → IsKept a level id → IsKept b level id → Stands a e.place b level id

-- one end's part (own)
pub record EndHolds (e : Port) (a : Router) (f : Port) (b : Router) (link : ℕ)
    (ds : List Datagram) : Type 0 where
  pub sound : IsSound e a
  pub hellos : Hellos e a.boot (tie_at a e.place) f b.boot link ds
  pub sent : IsSent e a link ds
  pub standing : IsStanding e a f b

-- a link of two routers (own)
pub record LinkHolds (e f : Port) (link : ℕ) (a b : Router) (ds : List Datagram) : Type 0 where
  pub near : EndHolds e a f b link ds
  pub far : EndHolds f b e a link ds
  pub uncrossed : Uncrossed e f link ds
  pub ends : (d : Datagram) → In d ds → d.link ≡ link
      → (d.sender ≡ e.router) ⊎ (d.sender ≡ f.router)

-- ---- in a network

-- a router's place belongs to one link or LAN (own)
pub record IsWired (net : Network) : Type 0 where
  pub once : (link other router place : ℕ) → place_at net link router ≡ Some place
      → place_at net other router ≡ Some place → link ≡ other

-- a link joins two ends (own)
pub record Joins (net : Network) (e f : Port) (link : ℕ) : Type 0 where
  pub ends : nth net.links link ≡ Some (record { router = e.router; place = e.place }
      ∷ record { router = f.router; place = f.place } ∷ [])
  pub apart : e.router ≢ f.router

-- what is kept of a link holds in a network (own)
pub record Holds (net : Network) (e f : Port) (link : ℕ) : Type 0 where
  pub a : Router
  pub b : Router
  pub at_a : nth net.routers e.router ≡ Some a
  pub at_b : nth net.routers f.router ≡ Some b
  pub holds : LinkHolds e f link a b net.datagrams

-- ---- claims

-- a link is up at a level (own)
pub record IsUp (e : Port) (a : Router) (f : Port) (b : Router) (level : Level) : Type 0 where
  pub near : opens (nth a.circuits e.place) level ≡ true
  pub far : opens (nth b.circuits f.place) level ≡ true

-- an end names the other: it is up, and keeps the other's present name (RFC 5303 3.2) and boot (own)
pub record Named (e : Port) (a : Router) (f : Port) (b : Router) : Type 0 where
  pub up : (bond_at a e.place).state ≡ Up
  pub names : (bond_at a e.place).names ≡ Some (name_of f b.boot)
  pub boot : (tie_at a e.place).boot ≡ Some b.boot

-- what one end holds of an LSP ID the other holds as new or newer, or the one's SRM flag stands on
-- the link (ISO 10589 7.3.17)
abbrev pub Standing : Router → ℕ → Router → Level → ℕ → Type 0
Standing a place b level id = (srm_at (book_of a level) id place ≡ true)
    ⊎ (rank_at (book_of a level) id ≤ rank_at (book_of b level) id)

-- the claim of a link that is up: each end names the other, and stands to it for what neither let
-- go (own)
pub record Claim (e : Port) (a : Router) (f : Port) (b : Router) (level : Level) : Type 0 where
  pub near : Named e a f b
  pub far : Named f b e a
  pub there : (id : ℕ) → IsKept a level id → IsKept b level id → Standing a e.place b level id
  pub back : (id : ℕ) → IsKept a level id → IsKept b level id → Standing b f.place a level id
