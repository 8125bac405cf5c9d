-- The designated system of a LAN (ISO 10589 8.4.5), and the CSNP counter, which only it uses.
use Rattle.std.specs.Prelude.{ℕ, ◌+◌, ◌*◌, ◌==◌, nat_lt, Bool, false, ◌&&◌, ◌||◌, List, [], ◌∷◌, Option, Some, None, if◌then◌else◌}
use Rattle.isis_base.specs.declared.level.Level.{Level}
use Rattle.isis_base.specs.declared.level.Level.TheVariants as level
use Rattle.model_router.specs.Both.{at}
use Rattle.model_router.specs.Configs.{Config}
use Rattle.model_router.specs.Adjacencies.{Neighbour}
use Rattle.model_router.specs.Routers.{LanNeighbour, CircuitLevel, Circuit, some_up}

-- who may be the designated system of a LAN, with the LAN ID of its hello (8.4.5)
pub record Candidate : Type 0 where
  pub priority : ℕ
  pub snpa : ℕ
  pub system : ℕ
  pub lan : ℕ

-- whether a candidate stands before another: by priority, then SNPA (ISO 10589 8.4.5), then system
-- (own)
abbrev pub beats : Candidate → Candidate → Bool
beats a b =
    nat_lt b.priority a.priority
    || (a.priority == b.priority
    && (nat_lt b.snpa a.snpa || (a.snpa == b.snpa && nat_lt b.system a.system)))

-- 8.4.5
abbrev pub candidate : Neighbour → Candidate
candidate n = record { priority = n.priority; snpa = n.snpa; system = n.system; lan = n.lan }

-- the better of a candidate and a neighbour, which counts where it is Up (8.4.5)
abbrev pub better : Candidate → LanNeighbour → Candidate
better best n = if n.up && beats (candidate n.neighbour) best then candidate n.neighbour else best

-- the greatest of a candidate and further ones (8.4.5)
abbrev pub elect : Candidate → List (ℕ × LanNeighbour) → Candidate
elect best [] = best
elect best (pair ∷ heard) = elect (better best pair.1) heard

-- oneself as a candidate on a circuit; the circuit's number is its pseudonode (8.4.5)
abbrev pub oneself : Config → ℕ → Circuit → Candidate
oneself config place c =
    record {
      priority = c.priority;
      snpa = config.system;
      system = config.system;
      lan = 256 * config.system + (place + 1);
    }

-- who is designated on a LAN and level: nobody without an up neighbour; at once, without a wait
-- (own)
abbrev pub designated : Config → ℕ → Circuit → Level → Option Candidate
designated config place c level =
    if c.lan && some_up (at c.levels level).heard
    then Some (elect (oneself config place c) (at c.levels level).heard)
    else None

-- own
abbrev pub is_own : Config → Option Candidate → Bool
is_own config None = false
is_own config (Some c) = c.system == config.system

-- 8.4.5
abbrev pub is_designated : Config → ℕ → Circuit → Level → Bool
is_designated config place c level = is_own config (designated config place c level)

-- ---- the CSNP counter stands at 0 where the router isn't designated (own)

-- own
abbrev pub idle_level : Bool → CircuitLevel → CircuitLevel
idle_level own part = record part { csnp = if own then part.csnp else 0 }

-- own
abbrev pub idle : Config → ℕ → Circuit → Circuit
idle config place c = record c {
  levels = record {
    one = idle_level (is_designated config place c level.One) c.levels.one;
    two = idle_level (is_designated config place c level.Two) c.levels.two;
  };
}

-- all circuits, from a place on (own)
abbrev pub idle_all : Config → ℕ → List Circuit → List Circuit
idle_all config place [] = []
idle_all config place (c ∷ circuits) = idle config place c ∷ idle_all config (place + 1) circuits
