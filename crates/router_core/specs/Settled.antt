-- Own LSPs that say what is wanted, and what leaves them so (ISO 10589 7.3.6; that it is marked:
-- own).
use Rattle.std.specs.Prelude.{◌≡◌, ℕ, Bool, true, false, ◌&&◌, List, [], ◌∷◌, map, Option, Some, None, IfSome}
use Rattle.std.specs.List.{AllByRecursion}
use Rattle.std.specs.Option.{option_map}
use Rattle.isis_base.specs.declared.level.Level.{Level}
use Rattle.isis_base.specs.declared.level.Level.TheVariants as level
use Rattle.model_router.specs.Adjacencies.{Hello, Neighbour, PointAdj, common_of, hear_point}
use Rattle.model_router.specs.Configs.{Config}
use Rattle.model_router.specs.Events.{Message, Refused, PointHelloHeard, LanHelloHeard, LspHeard, SnpHeard, Event, Second, Take, Pull, Metric, Overload, Prefix}
use Rattle.model_router.specs.Maps.{find}
use Rattle.model_router.specs.OwnLsps.{same_contents}
use Rattle.model_router.specs.Cells.{Heard}
use Rattle.model_router.specs.LspTable.{met}
use Rattle.model_router.specs.Takes.{whose_of}
use Rattle.model_router.specs.declared.lsp_case.LspCase.TheVariants as lsp
use Rattle.model_router.specs.Routers.{Circuit, CircuitLevel, Contents, Issued, LanNeighbour, Router, book_of, level_of}
use Rattle.model_router.specs.Wanted.{wanted}
use Rattle.router_core.specs.Givens.{given}
use Rattle.router_core.specs.Seconds.{numbers}
use Rattle.router_core.specs.declared.marks.Marks.{Marks}

-- whether an issue says these contents; nothing does where it isn't issued (7.3.6)
abbrev pub is_said : Option Issued → Contents → Bool
is_said None contents = false
is_said (Some i) contents = same_contents i.contents contents

-- what is wanted of an LSP ID is issued with those contents (7.3.6)
abbrev pub Says : List (ℕ × Issued) → ℕ × Contents → Type 0
Says own want = is_said (find own want.0) want.1 ≡ true

-- each wanted fragment is issued with those contents, and nothing else is issued (7.3.6)
pub record IsSettled (own : List (ℕ × Issued)) (wants : List (ℕ × Contents)) : Type 0 where
  pub said : AllByRecursion (Says own) wants
  pub same : numbers own ≡ numbers wants

-- a level's own LSPs are so, by the router's own routes, adjacencies and configuration (7.3.6)
abbrev pub IsSettledAt : Router → Level → Type 0
IsSettledAt r level = IsSettled (level_of r level).own (wanted given r r level)

-- each level that is marked is settled (own)
pub record AreTrue (marks : Marks) (r : Router) : Type 0 where
  pub one : marks.one ≡ true → IsSettledAt r level.One
  pub two : marks.two ≡ true → IsSettledAt r level.Two

-- whether a router runs both levels, so that its routes of one are leaked into the other (RFC 5302 3)
abbrev pub runs_both : Router → Bool
runs_both r = r.config.runs.one && r.config.runs.two

-- an LSP outbids no own one (7.3.16.1)
abbrev pub IsNoBid : Router → Level → Heard → Type 0
IsNoBid r l h = met (book_of r l) (whose_of r.config.system (level_of r l) h.id) h ≡ lsp.Outbid → ⊥

-- ---- what own LSPs look at of circuits (7.3.7 to 7.3.10)

-- of a neighbour on a LAN all but what is left of its holding time (7.3.8, 7.3.10, 8.4.5)
abbrev pub lan_face : LanNeighbour → LanNeighbour
lan_face n = record n { neighbour = record n.neighbour { left = 0 } }

-- own
abbrev pub heard_face : List (ℕ × LanNeighbour) → List (ℕ × LanNeighbour)
heard_face [] = []
heard_face (pair ∷ heard) = (pair.0, lan_face pair.1) ∷ heard_face heard

-- of a point-to-point neighbour its system and the levels in common (7.3.7, 7.3.9)
abbrev pub neighbour_face : Neighbour → Neighbour
neighbour_face n = record {
  system = n.system;
  snpa = 0;
  extended = 0;
  boot = 0;
  levels = n.levels;
  priority = 0;
  lan = 0;
  left = 0;
}

-- own
abbrev pub point_face : PointAdj → PointAdj
point_face point =
    record { state = point.state; neighbour = option_map neighbour_face point.neighbour }

-- no counter
abbrev pub level_face : CircuitLevel → CircuitLevel
level_face part = record { heard = heard_face part.heard; csnp = 0; psnp = 0; due = false }

-- a circuit without its key, counters, times and boots, which own LSPs don't look at
abbrev pub face : Circuit → Circuit
face c = record {
  lan = c.lan;
  metric = c.metric;
  priority = c.priority;
  address = c.address;
  key = None;
  point = point_face c.point;
  levels = record { one = level_face c.levels.one; two = level_face c.levels.two };
  hello = 0;
  boots = [];
}

-- own
abbrev pub faces : List Circuit → List Circuit
faces circuits = map face circuits

-- ---- what leaves all that own LSPs are made from

-- configuration, circuits' faces and own LSPs stay (own)
pub record Keeps (r t : Router) : Type 0 where
  pub config : t.config ≡ r.config
  pub circuits : faces t.circuits ≡ faces r.circuits
  pub one : t.levels.one.own ≡ r.levels.one.own
  pub two : t.levels.two.own ≡ r.levels.two.own

-- own
abbrev pub IsNoHello : Message → Type 0
IsNoHello (Refused cause) = Unit {0}
IsNoHello (PointHelloHeard h) = ⊥
IsNoHello (LanHelloHeard l h) = ⊥
IsNoHello (LspHeard l from h) = Unit {0}
IsNoHello (SnpHeard l from source range entries) = Unit {0}

-- neither a hello nor a second nor a change of the configuration (own)
abbrev pub IsAside : Event → Type 0
IsAside Second = ⊥
IsAside (Take place m) = IsNoHello m
IsAside (Pull place) = Unit {0}
IsAside (Metric place metric) = ⊥
IsAside (Overload on) = ⊥
IsAside (Prefix prefix metric) = ⊥

-- ---- a hello on a point-to-point circuit

-- own LSPs say the same of the adjacency after a hello (own)
abbrev pub LeavesFace : Circuit → Config → Hello → Type 0
LeavesFace c config h = IfSome h.handshake
    (λ shake. point_face (hear_point c.point (common_of config h) h shake) ≡ point_face c.point)
