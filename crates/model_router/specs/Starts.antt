-- The opening state of a router: nothing is held, no adjacency, all counters 0 (own: nothing
-- outlives a restart).
use Rattle.std.specs.Prelude.{ℕ, ◌+◌, false, List, [], ◌∷◌, map, replicate, Some, None, if◌then◌else◌}
use Rattle.isis_tlv.specs.declared.three_way.Adj.TheVariants.{Down}
use Rattle.model_router.specs.Sets.{with_one}
use Rattle.model_router.specs.Configs.{Config}
use Rattle.model_router.specs.Routers.{CircuitLevel, Circuit, LevelState, Router}

-- a level of a circuit on which nothing was heard (own)
abbrev pub quiet : CircuitLevel
quiet = record { heard = []; csnp = 0; psnp = 0; due = false }

-- a circuit at the start: its kind and its configuration alone (own)
abbrev pub started : Circuit → Circuit
started c =
    record c {
      point = record { state = Down; neighbour = None };
      levels = record { one = quiet; two = quiet };
      hello = 0;
      boots = [];
    }

-- the set of the point-to-point circuits, from a place on (own)
abbrev pub points_of : ℕ → List Circuit → ℕ
points_of place [] = 0
points_of place (c ∷ circuits) =
    let rest = points_of (place + 1) circuits in if c.lan then rest else with_one rest place

-- a level at the start: nothing is held, issued or let go (own)
abbrev pub empty_level : ℕ → LevelState
empty_level p2p =
    record {
      book = record { cells = []; opened = 0; p2p = p2p; changes = 0 };
      own = [];
      gone = Some [];
    }

-- a router at its start, in a boot (own)
abbrev pub start : Config → ℕ → List Circuit → Router
start config boot circuits = record {
  config = config;
  boot = boot;
  circuits = map started circuits;
  levels = record {
    one = empty_level (points_of 0 circuits);
    two = empty_level (points_of 0 circuits);
  };
  drops = replicate 21 0;
}
