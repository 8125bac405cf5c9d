-- A circuit's adjacencies and counters as the model of the router has them (own).
use Rattle.std.specs.Prelude.{◌≡◌, ℕ, ◌+◌, ◌^◌, ◌<◌, Bool, true, false, List, [], Option, Some, None}
use Rattle.std.specs.List.{AllByRecursion}
use Rattle.isis_base.specs.declared.identifiers.SystemId.{SystemId}
use Rattle.model_router.specs.Both.{Both}
use Rattle.model_router.specs.Configs.{Config}
use Rattle.model_router.specs.Adjacencies.{Neighbour, PointAdj}
use Rattle.model_router.specs.Routers.{LanNeighbour, CircuitLevel}
use Rattle.model_router.specs.Numbers.{system_number}
use Rattle.adjacency.specs.Views.{point_of, point_down}
use Rattle.router_circuits.specs.declared.medium.Medium.{Medium}
use Rattle.router_circuits.specs.declared.medium.Medium.TheVariants as medium
use Rattle.router_circuits.specs.declared.timers.Timers.{Timers}

-- a circuit's number counts from 1, its place in the model from 0; hellos and elections look at
-- nothing of a configuration but its system (own)
pub record IsHere (config : Config) (place : ℕ) (id : SystemId) (number : ℕ) : Type 0 where
  pub system : config.system ≡ system_number id
  pub circuit : place + 1 ≡ number

-- ---- adjacencies

abbrev pub is_lan : Medium → Bool
is_lan (medium.Point held) = false
is_lan (medium.Lan one two) = true

-- the point-to-point adjacency, which is Down on a LAN (own)
abbrev pub point_in : Medium → PointAdj
point_in (medium.Point held) = point_of held
point_in (medium.Lan one two) = point_down

-- who is heard on each level of a LAN; nobody on a point-to-point circuit (own)
abbrev pub heard_in : Medium → Both (List (ℕ × LanNeighbour))
heard_in (medium.Point held) = record { one = []; two = [] }
heard_in (medium.Lan one two) = record { one = one; two = two }

-- the boots that are remembered; none before room was taken for them (own)
abbrev pub boots_in : Option (List (ℕ × ℕ)) → List (ℕ × ℕ)
boots_in None = []
boots_in (Some boots) = boots

-- a level of a circuit, of those heard and the counters (ISO 10589 7.3.15.3, 7.3.15.4)
abbrev pub level_in : List (ℕ × LanNeighbour) → Timers → CircuitLevel
level_in heard timers = record {
  heard = heard;
  csnp = timers.csnp;
  psnp = timers.psnp;
  due = timers.due;
}

-- both levels
abbrev pub levels_in : Both (List (ℕ × LanNeighbour)) → Timers → Timers → Both CircuitLevel
levels_in heard one two =
    record { one = level_in heard.one one; two = level_in heard.two two }

-- ---- sizes

-- the fields of a neighbour have the standard's sizes (ISO 10589 9.5 to 9.7, RFC 5303 3.1)
pub record IsSized (n : Neighbour) : Type 0 where
  pub system : n.system < 2 ^ 48
  pub snpa : n.snpa < 2 ^ 48
  pub extended : n.extended < 2 ^ 32
  pub priority : n.priority < 2 ^ 8
  pub lan : n.lan < 2 ^ 56
  pub left : n.left < 2 ^ 16

-- own
abbrev pub AllSized : List (ℕ × LanNeighbour) → Type 0
AllSized heard = AllByRecursion (λ pair. IsSized pair.1.neighbour) heard

-- so are those of all who are heard on a LAN (own)
pub record AreSized (medium : Medium) : Type 0 where
  pub one : AllSized (heard_in medium).one
  pub two : AllSized (heard_in medium).two
