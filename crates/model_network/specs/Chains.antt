-- Routers that clean links and swept LANs connect (ISO 10589 7.3.17; the words: own).
use Rattle.std.specs.Prelude.{◌≡◌, ℕ, Some}
use Rattle.isis_base.specs.declared.level.Level.{Level}
use Rattle.model_router.specs.Places.{nth}
use Rattle.model_router.specs.Routers.{Router}
use Rattle.model_router.specs.Flooding.{IsKept}
use Rattle.model_network.specs.Networks.{Network}
use Rattle.model_network.specs.Ports.{Port}
use Rattle.model_network.specs.Kept.{IsUpIn}
use Rattle.model_network.specs.Counts.{flags}
use Rattle.model_network.specs.Sweeps.{IsSweptBy}

-- a point-to-point link between two routers is clean at a level: it is up, and no SRM flag of the
-- level stands on it at either end (own)
pub record IsClean (net : Network) (level : Level) (i j : ℕ) : Type 0 where
  pub near : Port
  pub far : Port
  pub link : ℕ
  pub a : Router
  pub b : Router
  pub here : near.router ≡ i
  pub there : far.router ≡ j
  pub up : IsUpIn net near far link a b level
  pub quiet : flags a near.place level ≡ 0
  pub quiet_there : flags b far.place level ≡ 0

-- two routers are joined, named in either order: by a clean link, or since one is swept by the other
-- (own)
pub data AreJoined (net : Network) (level : Level) (i j : ℕ) : Type 0 where
  Clean : IsClean net level i j → AreJoined net level i j
  CleanBack : IsClean net level j i → AreJoined net level i j
  Swept : (link : ℕ) → IsSweptBy net link level i j → AreJoined net level i j
  SweptBack : (link : ℕ) → IsSweptBy net link level j i → AreJoined net level i j

-- a chain of routers that are there, each joined with the next, leads from one to another (own)
pub data Leads (net : Network) (level : Level) : ℕ → ℕ → Type 0 where
  Stays : (i : ℕ) → Leads net level i i
  Along : (i j k : ℕ) (r : Router) → nth net.routers j ≡ Some r
      → AreJoined net level i j → Leads net level j k → Leads net level i k

-- an LSP ID was let go by no router to which a chain leads (own)
pub record IsKeptBy (net : Network) (level : Level) (i id : ℕ) : Type 0 where
  pub kept : (m : ℕ) (r : Router) → Leads net level i m → nth net.routers m ≡ Some r
      → IsKept r level id
