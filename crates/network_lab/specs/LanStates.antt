-- Whom the members of LANs see, and which of them are swept (ISO 10589 7.3.15.2, 8.4.5; the words:
-- own).
use Rattle.std.specs.Prelude.{ℕ, ◌-◌, ◌^◌, ◌==◌, nat_lt, Bool, false, ◌&&◌, not, List, [], ◌∷◌, Option, Some, None, is_some, if◌then◌else◌}
use Rattle.std.specs.Option.{option_map}
use Rattle.isis_base.specs.declared.level.Level.{Level}
use Rattle.model_router.specs.Numbers.{system_id}
use Rattle.model_router.specs.Both.{at}
use Rattle.model_router.specs.Places.{nth}
use Rattle.model_router.specs.Routers.{Circuit, Router, book_of}
use Rattle.router_core.specs.Designated.{designated_system}
use Rattle.model_network.specs.declared.end.End.{End}
use Rattle.model_network.specs.Networks.{Taking, place_in}
use Rattle.model_network.specs.RunLines.{ends_of}
use Rattle.lab_facts.specs.declared.key.SweepKey.{SweepKey}
use Rattle.lab_facts.specs.Sweeps.{is_whole}
use Rattle.network_lab.specs.declared.lan_state.LanState.{LanState}
use Rattle.network_lab.specs.LabNets.{Seen}

-- ---- who is swept

-- two routers on a link or LAN and level, at their present boots and counts of changed keys (own)
abbrev pub moment_of : ℕ → Level → ℕ → Router → ℕ → Router → SweepKey
moment_of link level member a other b = record {
  link = link;
  level = level;
  member = member;
  sender = other;
  boot = a.boot;
  changes = (book_of a level).changes;
  sent_boot = b.boot;
  sent_changes = (book_of b level).changes;
}

-- whether changes of keys are still counted: at its last value a count stands still (own)
abbrev pub is_counted : Router → Level → Bool
is_counted r level = nat_lt (book_of r level).changes (2 ^ 64 - 1)

-- own
abbrev pub swept_between : List Taking → ℕ → Level → ℕ → Option Router → ℕ → Option Router → Bool
swept_between takings link level member None other b = false
swept_between takings link level member (Some a) other None = false
swept_between takings link level member (Some a) other (Some b) =
    is_counted a level && is_counted b level && is_whole (moment_of link level member a other b) takings

-- whether a router is swept by another on a link or LAN and level: the ranges of the CSNPs that it took
-- cleanly, at the present boots and counts of both, cover all LSP IDs (7.3.15.2)
abbrev pub swept_by : Seen → ℕ → Level → ℕ → ℕ → Bool
swept_by s link level member other =
    swept_between s.noted.takings link level member (nth s.routers member) other (nth s.routers other)

-- ---- whom a member sees

-- the system that is designated on a circuit; none where that isn't there (8.4.5)
abbrev pub seen_on : Router → ℕ → Option Circuit → Level → Option ℕ
seen_on r place None level = None
seen_on r place (Some c) level = designated_system r.config place c level

-- where the level is run (own)
abbrev pub seen_by : Option Router → Option ℕ → Level → Option ℕ
seen_by None place level = None
seen_by (Some r) None level = None
seen_by (Some r) (Some place) level =
    if at r.config.runs level then seen_on r place (nth r.circuits place) level else None

-- the system that a member of a LAN has designated at a level (8.4.5)
abbrev pub sees_at : Seen → ℕ → ℕ → Level → Option ℕ
sees_at s link member level =
    seen_by (nth s.routers member) (place_in (nth s.links link) member) level

-- ---- by whom it is swept

-- own
abbrev pub has_system : Option Router → ℕ → Bool
has_system None system = false
has_system (Some r) system = r.config.system == system

-- the router of a system among ends (own)
abbrev pub router_in : List Router → ℕ → List End → Option ℕ
router_in routers system [] = None
router_in routers system (e ∷ ends) =
    if has_system (nth routers e.router) system then Some e.router
    else router_in routers system ends

-- own
abbrev pub router_among : List Router → Option ℕ → List End → Option ℕ
router_among routers None ends = None
router_among routers (Some system) ends = router_in routers system ends

-- own
abbrev pub if_swept : Seen → ℕ → Level → ℕ → Option ℕ → Option ℕ
if_swept s link level member None = None
if_swept s link level member (Some other) =
    if not (other == member) && swept_by s link level member other then Some other else None

-- the other end of a LAN that a member has designated at a level, where it is swept by that (own)
abbrev pub sweeper_at : Seen → ℕ → ℕ → Level → Option ℕ
sweeper_at s link member level = if_swept s link level member
    (router_among s.routers (sees_at s link member level) (ends_of (nth s.links link)))

-- how a member of a LAN stands at a level (own)
unfoldable pub lan_state_at : Seen → ℕ → ℕ → Level → LanState
lan_state_at s link member level = record {
  sees = option_map system_id (sees_at s link member level);
  swept = is_some (sweeper_at s link member level);
}
