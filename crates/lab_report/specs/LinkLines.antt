-- The lines of links and LANs in a report, and of the routers that agree (own).
use Rattle.std.specs.Prelude.{ℕ, Bool, false, List, [], ◌++◌, Option, Some, None, codes, decimal, slice_index, if◌then◌else◌}
use Rattle.isis_base.specs.declared.level.Level.{Level}
use Rattle.isis_base.specs.declared.level.Level.TheVariants as level
use Rattle.isis_base.specs.Levels.{level_text}
use Rattle.model_router.specs.Places.{nth}
use Rattle.model_router.specs.Routers.{Router}
use Rattle.model_network.specs.declared.end.End.{End}
use Rattle.network_lab.specs.Passed.{LinkState}
use Rattle.network_lab.specs.LabNets.{Seen}
use Rattle.network_lab.specs.LinkStates.{state_at, pair_of, are_points}
use Rattle.model_network.specs.RunLines.{ends_of}
use Rattle.lab_report.specs.LanLines.{member_lines}

-- ` up flags F G ahead P Q excepted E`
unfoldable pub up_words : LinkState → List ℕ
up_words state =
    codes " up flags " ++ decimal (slice_index state.flags 0)
    ++ codes " " ++ decimal (slice_index state.flags 1)
    ++ codes " ahead " ++ decimal (slice_index state.ahead 0)
    ++ codes " " ++ decimal (slice_index state.ahead 1)
    ++ codes " excepted " ++ decimal state.excepted ++ codes "\n"

-- `link NAME LEVEL up flags F G ahead P Q excepted E`, or `link NAME LEVEL down`
unfoldable pub link_line : List ℕ → Level → LinkState → List ℕ
link_line name level state =
    codes "link " ++ name ++ codes " " ++ level_text level
    ++ (if state.up then up_words state else codes " down\n")

-- whether two ends are those of a point-to-point link and run the level (ISO 10589 6.3)
abbrev pub both_run : List Router → Level → Option (End × End) → Bool
both_run routers level None = false
both_run routers level (Some pair) = are_points routers level pair

-- a point-to-point link whose two ends run the level has a line of it
unfoldable pub link_at : List ℕ → Seen → List End → Level → List ℕ
link_at name s ends level =
    if both_run s.routers level (pair_of ends)
    then link_line name level (state_at s.routers ends level) else []

-- the lines of a link or LAN of this number, at a level
abbrev pub level_lines : List (List ℕ) → List ℕ → Seen → ℕ → List End → Level → List ℕ
level_lines routers name s link ends level =
    link_at name s ends level ++ member_lines routers name s link level ends

-- those of both levels; the routers have these names
abbrev pub link_lines : List (List ℕ) → List ℕ → Seen → ℕ → List ℕ
link_lines routers name s link =
    level_lines routers name s link (ends_of (nth s.links link)) level.One
    ++ level_lines routers name s link (ends_of (nth s.links link)) level.Two

-- `agree LEVEL routers R groups G`
unfoldable pub agree_line : Level → ℕ → ℕ → List ℕ
agree_line level routers groups =
    codes "agree " ++ level_text level ++ codes " routers " ++ decimal routers
    ++ codes " groups " ++ decimal groups ++ codes "\n"
