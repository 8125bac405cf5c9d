-- The lines of LANs in a report (own).
use Rattle.std.specs.Prelude.{ℕ, Bool, false, ◌&&◌, List, [], ◌++◌, Option, Some, None, codes, if◌then◌else◌}
use Rattle.std.specs.List.{flat_map}
use Rattle.std.specs.Str.{bytes_eq}
use Rattle.isis_base.specs.declared.identifiers.SystemId.{SystemId}
use Rattle.isis_base.specs.declared.level.Level.{Level}
use Rattle.isis_base.specs.Levels.{level_text}
use Rattle.isis_base.specs.Texts.{system_text}
use Rattle.model_router.specs.Numbers.{system_id}
use Rattle.model_router.specs.Both.{at}
use Rattle.model_router.specs.Places.{nth}
use Rattle.model_router.specs.Routers.{Circuit, Router}
use Rattle.model_network.specs.declared.end.End.{End}
use Rattle.network_lab.specs.declared.lan_state.LanState.{LanState}
use Rattle.network_lab.specs.LabNets.{Seen}
use Rattle.network_lab.specs.LanStates.{lan_state_at}
use Rattle.lab_report.specs.Names.{name_at}

-- ---- whom a member sees

abbrev pub swept_words : Bool → List ℕ
swept_words swept = if swept then codes " swept yes" else codes " swept no"

-- ` SYSTEM swept yes|no`; of itself ` SYSTEM`, and ` none` where it sees nobody
abbrev pub sees_words : SystemId → Bool → Option SystemId → List ℕ
sees_words own swept None = codes " none"
sees_words own swept (Some system) =
    codes " " ++ system_text system
    ++ (if bytes_eq system.0 own.0 then [] else swept_words swept)

-- `lan NAME LEVEL MEMBER sees ..`
unfoldable pub lan_line : List ℕ → Level → List ℕ → SystemId → LanState → List ℕ
lan_line name level member own state =
    codes "lan " ++ name ++ codes " " ++ level_text level ++ codes " " ++ member
    ++ codes " sees" ++ sees_words own state.swept state.sees ++ codes "\n"

-- ---- the members of a LAN

abbrev pub is_lan : Option Circuit → Bool
is_lan None = false
is_lan (Some c) = c.lan

-- whether a circuit is one of a LAN and its router runs the level (ISO 10589 6.3)
abbrev pub is_lan_in : Option Router → ℕ → Level → Bool
is_lan_in None place level = false
is_lan_in (Some r) place level = at r.config.runs level && is_lan (nth r.circuits place)

-- the line of a member of this name, by its router
abbrev pub member_words : List ℕ → List ℕ → Seen → ℕ → Level → ℕ → Option Router → List ℕ
member_words name member s lan level router None = []
member_words name member s lan level router (Some r) =
    lan_line name level member (system_id r.config.system) (lan_state_at s lan router level)

-- a member of a LAN that runs the level has a line
unfoldable pub member_line : List (List ℕ) → List ℕ → Seen → ℕ → Level → End → List ℕ
member_line routers name s lan level e =
    if is_lan_in (nth s.routers e.router) e.place level
    then member_words name (name_at routers e.router) s lan level e.router (nth s.routers e.router)
    else []

-- the lines of the members, in the order of the script
abbrev pub member_lines : List (List ℕ) → List ℕ → Seen → ℕ → Level → List End → List ℕ
member_lines routers name s lan level ends = flat_map (member_line routers name s lan level) ends
