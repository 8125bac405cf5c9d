-- The text of the IPv6 routes of a system in captured LSPs (own).

use Rattle.std.specs.Prelude.{◌≡◌, ℕ, min, List, ◌++◌, codes, decimal, Option}
use Rattle.std.specs.List.{flat_map}
use Rattle.isis_base.specs.declared.level.Level.{Level}
use Rattle.isis_base.specs.declared.identifiers.SystemId.{SystemId}
use Rattle.line_cuts.specs.Words.{lines_of}
use Rattle.ipv6_reach.specs.declared.prefix6.Prefix6.{Prefix6}
use Rattle.ipv6_reach.specs.declared.rank6.Rank6.{Rank6}
use Rattle.ipv6_reach.specs.declared.rank6.Rank6.TheVariants as rank
use Rattle.ipv6_reach.specs.declared.route6.Route6.{Route6}
use Rattle.ipv6_reach.specs.Texts6.{prefix6_text}
use Rattle.ipv6_reach.specs.Routes6.{AreRoutesFrom}
use Rattle.capture_text.specs.declared.read.Read.{Read}
use Rattle.capture_text.specs.Reading.{nothing_read, AreRead}
use Rattle.capture_text.specs.declared.absence.Absence.{Absence}
use Rattle.capture_text.specs.Absences.{absence_of}
use Rattle.capture_text.specs.HeadText.{head_text}
use Rattle.route_text.specs.ViaText.{via_text}

-- `own`, `up` or `down`
abbrev pub rank6_text : Rank6 → List ℕ
rank6_text rank.Own = codes "own"
rank6_text rank.Up = codes "up"
rank6_text rank.Down = codes "down"

-- a cost is told as at most 4,261,412,864, the greatest metric of a prefix that is considered (RFC 5308 2)
abbrev pub told_cost6 : ℕ → ℕ
told_cost6 cost = min cost 4261412864

-- ` PREFIX`, and ` RANK COST`
unfoldable pub prefix6_words : Prefix6 → List ℕ
prefix6_words prefix = codes " " ++ prefix6_text prefix.address prefix.length

abbrev pub way6_text : Rank6 → ℕ → List ℕ
way6_text rank cost = codes " " ++ rank6_text rank ++ (codes " " ++ decimal cost)

-- `route6 PREFIX RANK COST via SYSTEM SYSTEM`
unfoldable pub route6_line : Route6 → List ℕ
route6_line route =
    codes "route6" ++ (prefix6_words route.prefix ++ (way6_text route.rank (told_cost6 route.cost)
    ++ (via_text route.hops ++ codes "\n")))

-- the head, and a line for each route
abbrev pub routes6_text : Read → List Route6 → List ℕ
routes6_text read routes =
    head_text (codes "isis-routes6 1") read.kept read.skipped ++ flat_map route6_line routes

-- a text has the IPv6 routes of a system in the LSPs of a level that an input has, and these lack what is said
pub record IsRoutes6Text (level : Level) (system : SystemId) (input : List ℕ)
    (absence : Option Absence) (text : List ℕ) : Type 0 where
  pub read : Read
  pub reads : AreRead (nothing_read level) (lines_of input) read
  pub lacks : absence ≡ absence_of system read.capture.entries
  pub routes : List Route6
  pub best : AreRoutesFrom read.capture.entries system routes
  pub text_is : text ≡ routes6_text read routes
