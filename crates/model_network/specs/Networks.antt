-- Networks: routers, the links and LANs between them, and the datagrams that were sent (own).
use Rattle.std.specs.Prelude.{ℕ, zero, suc, ◌+◌, ◌==◌, List, [], ◌∷◌, Option, Some, None, if◌then◌else◌}
use Rattle.isis_base.specs.declared.level.Level.{Level}
use Rattle.model_router.specs.Both.{Both}
use Rattle.model_router.specs.Places.{nth}
use Rattle.model_router.specs.Configs.{Config}
use Rattle.model_router.specs.Routers.{Circuit, Router}
use Rattle.model_router.specs.Datagrams.{Sent}
use Rattle.model_router.specs.Starts.{start}
use Rattle.model_datagram.specs.Datagrams.{datagram}
use Rattle.model_network.specs.declared.end.End.{End}

-- A datagram that was sent: by which router, in which of its boots and at which counts of changed
-- keys, on which link or LAN, and what it says, by a sender of this configuration on the circuit at
-- this place (own).
pub record Datagram : Type 0 where
  pub sender : ℕ
  pub boot : ℕ
  pub changes : Both ℕ
  pub link : ℕ
  pub config : Config
  pub place : ℕ
  pub circuit : Circuit
  pub says : Sent

-- its octets, which alone are delivered (own)
abbrev pub octets_of : Datagram → List ℕ
octets_of d = datagram d.config d.boot d.place d.circuit d.says

-- A range of LSP IDs of a CSNP that a router took, on which link or LAN and level: the router's boot
-- and count of changed keys then, and those of the sender when it sent it (own).
pub record Taking : Type 0 where
  pub member : ℕ
  pub boot : ℕ
  pub changes : ℕ
  pub link : ℕ
  pub level : Level
  pub sender : ℕ
  pub sent_boot : ℕ
  pub sent_changes : ℕ
  pub first : ℕ
  pub last : ℕ

-- The routers, the links and LANs by their ends, all datagrams that were sent, in order, how many
-- were injected, the states that routers were in after the events that they took, and the ranges of
-- CSNPs that they took cleanly on LANs, the latest first (own).
pub record Network : Type 0 where
  pub routers : List Router
  pub links : List (List End)
  pub datagrams : List Datagram
  pub injected : ℕ
  pub past : List Router
  pub takings : List Taking

-- ---- look-ups

-- the place of a router's circuit among ends (own)
abbrev pub place_on : List End → ℕ → Option ℕ
place_on [] router = None
place_on (e ∷ ends) router = if e.router == router then Some e.place else place_on ends router

-- own
abbrev pub place_in : Option (List End) → ℕ → Option ℕ
place_in None router = None
place_in (Some ends) router = place_on ends router

-- the place of a router's circuit on a link or LAN, where it is an end of it (own)
abbrev pub place_at : Network → ℕ → ℕ → Option ℕ
place_at net link router = place_in (nth net.links link) router

-- an item by its number, counted from 1 (own)
abbrev pub numbered : {A : Type 0} → List A → ℕ → Option A
numbered list zero = None
numbered list (suc place) = nth list place

-- ---- restarts

-- a router in its next boot: nothing is held, no adjacency, all counters 0; its configuration as
-- changed so far (own)
abbrev pub restarted : Router → Router
restarted r = start r.config (r.boot + 1) r.circuits
