-- Neighbours, hellos and one's own part as the model of the router has them.
use Rattle.std.specs.Prelude.{ℕ, Bool, false, List, [], Option, Some, None}
use Rattle.isis_base.specs.declared.identifiers.SystemId.{SystemId}
use Rattle.isis_base.specs.declared.level.LevelSet.{LevelSet}
use Rattle.isis_tlv.specs.declared.three_way.ThreeWay.{ThreeWay}
use Rattle.isis_tlv.specs.declared.three_way.Adj.TheVariants.{Up, Initializing, Down}
use Rattle.model_router.specs.Both.{Both, runs_of}
use Rattle.model_router.specs.Configs.{Config}
use Rattle.model_router.specs.Adjacencies as model
use Rattle.model_router.specs.Numbers.{system_number, snpa_number, node_number}
use Rattle.ordered.specs.Keyed.{keyed}
use Rattle.adjacency.specs.declared.neighbour.Neighbour.{Neighbour}
use Rattle.adjacency.specs.declared.hello.Own.{Own}
use Rattle.adjacency.specs.declared.hello.HelloFields.{HelloFields}
use Rattle.adjacency.specs.declared.held.Held.{Held}
use Rattle.adjacency.specs.declared.held.Held.TheVariants as held

-- levels in common, which may be none (own)
abbrev pub common_runs : Option LevelSet → Both Bool
common_runs None = record { one = false; two = false }
common_runs (Some levels) = runs_of levels

abbrev pub neighbour_of : Neighbour → model.Neighbour
neighbour_of n = record {
  system = system_number n.system;
  snpa = snpa_number n.snpa;
  extended = n.id;
  boot = n.boot;
  levels = runs_of n.levels;
  priority = n.priority;
  lan = node_number n.lan;
  left = n.left;
}

-- neighbours by SNPA (own)
abbrev pub snpa_of : Neighbour → ℕ
snpa_of n = snpa_number n.snpa

abbrev pub by_snpa : List Neighbour → List (ℕ × Neighbour)
by_snpa ns = keyed snpa_of ns

-- an extended circuit ID that isn't there counts as 0 (own)
abbrev pub id_or_0 : Option ℕ → ℕ
id_or_0 None = 0
id_or_0 (Some id) = id

abbrev pub names_of : Option (SystemId × ℕ) → Option (ℕ × ℕ)
names_of None = None
names_of (Some names) = Some (system_number names.0, names.1)

abbrev pub shake_of : ThreeWay → model.Handshake
shake_of t = record { state = t.state; extended = id_or_0 t.own_id; names = names_of t.neighbour }

abbrev pub shakes_of : Option ThreeWay → Option model.Handshake
shakes_of None = None
shakes_of (Some t) = Some (shake_of t)

abbrev pub hello_of : HelloFields → model.Hello
hello_of h = record {
  source = system_number h.source;
  snpa = snpa_number h.snpa;
  boot = h.boot;
  runs = runs_of h.levels;
  holding = h.holding;
  priority = h.priority;
  lan = node_number h.lan;
  areas = h.areas.now;
  handshake = shakes_of h.three_way;
  names_me = h.names_me;
}

-- one's own part of a configuration; hellos look at nothing else of it
abbrev pub config_of : Own → Config
config_of own = record {
  system = system_number own.system;
  areas = own.areas.now;
  runs = runs_of own.levels;
  leak = false;
  overload = false;
  prefixes = [];
  keys = record { one = None; two = None };
}

-- a point-to-point adjacency
abbrev pub point_of : Held → model.PointAdj
point_of held.Down = record { state = Down; neighbour = None }
point_of (held.Initializing n) = record { state = Initializing; neighbour = Some (neighbour_of n) }
point_of (held.Up n) = record { state = Up; neighbour = Some (neighbour_of n) }

abbrev pub point_down : model.PointAdj
point_down = record { state = Down; neighbour = None }
