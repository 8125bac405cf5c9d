-- A hello and a point-to-point adjacency: the levels in common, the three-way handshake, and who is
-- kept (ISO 10589 8.2.4, RFC 5303 3.2).
use Rattle.std.specs.Prelude.{ℕ, ◌==◌, Bool, true, false, ◌&&◌, Option, Some, None, if◌then◌else◌, bytes_eq, List, [], ◌∷◌, ◌||◌}
use Rattle.isis_base.specs.declared.level.Level.{Level}
use Rattle.isis_tlv.specs.declared.three_way.Adj.{Adj}
use Rattle.isis_tlv.specs.declared.three_way.Adj.TheVariants.{Up, Initializing, Down}
use Rattle.model_router.specs.Both.{Both, at, same_levels}
use Rattle.model_router.specs.Configs.{Config}

-- A neighbour that is kept: its system, SNPA and extended circuit ID, the boot number of its frame
-- (own), the levels in common, its priority and LAN ID, and the seconds of its holding time that are
-- left (8.2.4.2, 8.4.2).
pub record Neighbour : Type 0 where
  pub system : ℕ
  pub snpa : ℕ
  pub extended : ℕ
  pub boot : ℕ
  pub levels : Both Bool
  pub priority : ℕ
  pub lan : ℕ
  pub left : ℕ

-- what a hello's three-way TLV says: the sender's state and extended circuit ID, and the neighbour
-- that it names, a system and an extended circuit ID (RFC 5303 3.1)
pub record Handshake : Type 0 where
  pub state : Adj
  pub extended : ℕ
  pub names : Option (ℕ × ℕ)

-- what a hello says (ISO 10589 9.5 to 9.7), the SNPA and the boot number that it came from, and
-- whether it lists one's own SNPA
pub record Hello : Type 0 where
  pub source : ℕ
  pub snpa : ℕ
  pub boot : ℕ
  pub runs : Both Bool
  pub holding : ℕ
  pub priority : ℕ
  pub lan : ℕ
  pub areas : List (List ℕ)
  pub handshake : Option Handshake
  pub names_me : Bool

-- a point-to-point adjacency: a neighbour is kept exactly outside Down (RFC 5303 3.2)
pub record PointAdj : Type 0 where
  pub state : Adj
  pub neighbour : Option Neighbour

-- own
abbrev pub same_state : Adj → Adj → Bool
same_state Down Down = true
same_state Initializing Initializing = true
same_state Up Up = true
same_state a b = false

-- RFC 5303 3.2
abbrev pub is_up : Adj → Bool
is_up Up = true
is_up Initializing = false
is_up Down = false

-- the three-way handshake: one's own state, and the state that is heard (RFC 5303 3.2)
abbrev pub three_way : Adj → Adj → Adj
three_way Down Down = Initializing
three_way Down Initializing = Up
three_way Down Up = Down
three_way Initializing Down = Initializing
three_way Initializing Initializing = Up
three_way Initializing Up = Up
three_way Up Down = Initializing
three_way Up Initializing = Up
three_way Up Up = Up

-- ---- the levels in common (ISO 10589 8.2.4.2): both run them, and for L1 share an area address

-- 8.2.4.2
abbrev pub has_area : List (List ℕ) → List ℕ → Bool
has_area [] area = false
has_area (x ∷ areas) area = bytes_eq x area || has_area areas area

-- 8.2.4.2
abbrev pub shares : List (List ℕ) → List (List ℕ) → Bool
shares own [] = false
shares own (area ∷ areas) = has_area own area || shares own areas

-- 8.2.4.2
abbrev pub common_of : Config → Hello → Both Bool
common_of config h = record {
  one = config.runs.one && h.runs.one && shares config.areas h.areas;
  two = config.runs.two && h.runs.two;
}

-- ---- a point-to-point hello

-- the neighbour that a hello makes (8.2.4.2, RFC 5303 3.2)
abbrev pub neighbour_of : Hello → Both Bool → ℕ → Neighbour
neighbour_of h common extended = record {
  system = h.source;
  snpa = h.snpa;
  extended = extended;
  boot = h.boot;
  levels = common;
  priority = h.priority;
  lan = h.lan;
  left = h.holding;
}

-- whether the neighbour that is kept is the one of a hello: its system, extended circuit ID, boot
-- number and levels in common (own)
abbrev pub is_same : Option Neighbour → Both Bool → Hello → ℕ → Bool
is_same None common h extended = false
is_same (Some n) common h extended =
    n.system == h.source && n.extended == extended && n.boot == h.boot && same_levels n.levels common

-- the state that the handshake starts at: Down where another neighbour is kept (own)
abbrev pub start_state : PointAdj → Both Bool → Hello → ℕ → Adj
start_state point common h extended =
    if is_same point.neighbour common h extended then point.state else Down

-- own
abbrev pub kept_in : Adj → Neighbour → Option Neighbour
kept_in Up n = Some n
kept_in Initializing n = Some n
kept_in Down n = None

-- own
abbrev pub point_at : Adj → Neighbour → PointAdj
point_at state n = record { state = state; neighbour = kept_in state n }

-- the adjacency after a hello (RFC 5303 3.2)
abbrev pub hear_point : PointAdj → Both Bool → Hello → Handshake → PointAdj
hear_point point common h shake =
    point_at (three_way (start_state point common h shake.extended) shake.state)
    (neighbour_of h common shake.extended)

-- own
abbrev pub keeps_level : Option Neighbour → Level → Bool
keeps_level None level = false
keeps_level (Some n) level = at n.levels level

-- whether the adjacency is up on a level (own)
abbrev pub point_open : PointAdj → Level → Bool
point_open point level = is_up point.state && keeps_level point.neighbour level
