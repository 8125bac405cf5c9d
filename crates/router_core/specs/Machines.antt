-- How a router's parts lie in memory, as the router's model has them (own).
use Rattle.std.specs.Prelude.{◌≡◌, ◌≤◌, ℕ, true, false, List, length, map, is_some}
use Rattle.std.specs.List.{AllByRecursion}
use Rattle.model_router.specs.Maps.{find}
use Rattle.model_router.specs.Routers.{Circuit, Contents, Router, level_of}
use Rattle.model_router.specs.Wanted.{wanted}
use Rattle.isis_base.specs.declared.level.Level.{Level}
use Rattle.isis_base.specs.declared.identifiers.LspId.{LspId}
use Rattle.isis_base.specs.Identifiers.{lsp_number}
use Rattle.model_router.specs.Both.{at}
use Rattle.model_router.specs.Takes.{answer_of}
use Rattle.model_router.specs.Events.{Message, Refused, PointHelloHeard, LanHelloHeard, LspHeard, SnpHeard}
use Rattle.model_router.specs.Receiving.{scene_of}
use Rattle.router_sending.specs.Drafts.{DraftView}
use Rattle.router_desk.specs.Desks.{desk_circuit}
use Rattle.router_levels.specs.Views.{state_of}
use Rattle.router_core.specs.Givens.{given}
use Rattle.router_core.specs.declared.parts.Parts.TheInside.{Inside}

-- the router that the parts are
abbrev pub machine_of : Inside → Router
machine_of m = record {
  config = record {
    system = m.desk.system;
    areas = m.areas;
    runs = m.desk.runs;
    leak = m.leak;
    overload = m.overload;
    prefixes = m.prefixes;
    keys = m.desk.keys;
  };
  boot = m.boot;
  circuits = m.circuits.items;
  levels = record { one = state_of m.one; two = state_of m.two };
  drops = m.drops;
}

-- a metric of three octets (RFC 5305 3), and a priority of seven bits (ISO 10589 9.5)
pub record IsFit (c : Circuit) : Type 0 where
  pub metric : c.metric ≤ 16777215
  pub priority : c.priority ≤ 127

-- the desk has the router's circuits, at most 64, and so have both
-- levels; there are at most three areas (ISO 10589 7.1.5)
pub record IsLaid (m : Inside) : Type 0 where
  pub desk : m.desk.circuits ≡ map desk_circuit m.circuits.items
  pub few : length m.circuits.items ≤ 64
  pub fit : AllByRecursion IsFit m.circuits.items
  pub areas : length m.areas ≤ 3
  pub one : m.one.book.circuits ≡ length m.circuits.items
  pub two : m.two.book.circuits ≡ length m.circuits.items

-- a draft of what is wanted of an own LSP ID (ISO 10589 7.3.16.1)
abbrev pub draft_at : Router → Level → LspId → DraftView
draft_at r level id = record {
  level = level;
  id = id;
  contents = answer_of (scene_of given r level) (lsp_number id);
  keyed = is_some (at r.config.keys level);
}

-- where an own LSP ID is issued, these are all that a level wants (own)
abbrev pub AreWantedFor : Router → Level → ℕ → List (ℕ × Contents) → Type 0
AreWantedFor r level n wants =
    is_some (find (level_of r level).own n) ≡ true → wants ≡ wanted given r r level

-- a hello came on a circuit of its kind (ISO 10589 6.3)
abbrev pub FitsKind : Circuit → Message → Type 0
FitsKind c (Refused cause) = Unit {0}
FitsKind c (PointHelloHeard h) = c.lan ≡ false
FitsKind c (LanHelloHeard level h) = c.lan ≡ true
FitsKind c (LspHeard level from h) = Unit {0}
FitsKind c (SnpHeard level from source range entries) = Unit {0}
