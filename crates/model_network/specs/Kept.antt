-- What is kept of a whole network in its run (own).
use Rattle.std.specs.Prelude.{◌≡◌, ℕ, ◌≤◌, true, [], Some}
use Rattle.isis_base.specs.declared.level.Level.{Level}
use Rattle.model_router.specs.Places.{nth}
use Rattle.model_router.specs.Routers.{Router}
use Rattle.model_router.specs.AdjacencyLaws.{is_point, FollowsAdjacencies, no_tie, tie_at}
use Rattle.model_network.specs.Networks.{Network}
use Rattle.model_network.specs.Speakers.{AreSpeaking, AreOctets}
use Rattle.model_network.specs.Ports.{Port}
use Rattle.model_network.specs.Links.{IsWired, Joins, Holds, IsUp, Claim}
use Rattle.model_network.specs.Counts.{ahead, flags}

-- an end of a link is there: its router has its system ID, and a point-to-point circuit at its place
-- (own)
pub record IsEnd (net : Network) (e : Port) : Type 0 where
  pub a : Router
  pub at_a : nth net.routers e.router ≡ Some a
  pub system : a.config.system ≡ e.system
  pub point : is_point (nth a.circuits e.place) ≡ true

-- a point-to-point link of two routers (own)
pub record IsPointLink (net : Network) (e f : Port) (link : ℕ) : Type 0 where
  pub joins : Joins net e f link
  pub near : IsEnd net e
  pub far : IsEnd net f

-- each router's books follow its adjacencies (own)
abbrev pub AreFollowing : Network → Type 0
AreFollowing net = (i : ℕ) (r : Router) → nth net.routers i ≡ Some r → FollowsAdjacencies r

-- A place of a router belongs to one link; routers speak, and their books follow their adjacencies;
-- what was sent are octets; and, where nothing was injected, what is kept of a link holds of each
-- point-to-point link (own).
pub record IsKeptNet (net : Network) : Type 0 where
  pub wired : IsWired net
  pub speaking : AreSpeaking net
  pub following : AreFollowing net
  pub octets : AreOctets net
  pub holds : net.injected ≡ 0 → (e f : Port) (link : ℕ) → IsPointLink net e f link
      → Holds net e f link

-- a network before its run: no router keeps a neighbour or remembers one, and nothing was sent (own)
pub record IsFreshNet (net : Network) : Type 0 where
  pub wired : IsWired net
  pub speaking : AreSpeaking net
  pub following : AreFollowing net
  pub alone : (i : ℕ) (r : Router) → nth net.routers i ≡ Some r → (place : ℕ)
      → tie_at r place ≡ no_tie
  pub nothing : net.datagrams ≡ []

-- the two routers of a link that is up at a level (own)
pub record IsUpIn (net : Network) (e f : Port) (link : ℕ) (a b : Router) (level : Level) : Type 0 where
  pub link_is : IsPointLink net e f link
  pub near : nth net.routers e.router ≡ Some a
  pub far : nth net.routers f.router ≡ Some b
  pub up : IsUp e a f b level

-- each end names the other, and what one end holds the other holds as new or newer, or its SRM flag
-- stands; so no end is ahead in more LSP IDs than its flags (own)
pub record IsClaimedOf (e f : Port) (a b : Router) (level : Level) : Type 0 where
  pub claim : Claim e a f b level
  pub near : ahead a b level ≤ flags a e.place level
  pub far : ahead b a level ≤ flags b f.place level
