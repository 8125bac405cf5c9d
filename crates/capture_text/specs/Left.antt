-- What is still to come of a text, and how many calls make it at most (own).

use Rattle.std.specs.Prelude.{ℕ, ◌+◌, List, [], ◌++◌, length, codes, Option, Some, None}
use Rattle.std.specs.List.{flat_map}
use Rattle.capture_text.specs.declared.left.Counts.{Counts}
use Rattle.capture_text.specs.declared.left.RoutesText.{RoutesText}
use Rattle.capture_text.specs.declared.left.Routes6Text.{Routes6Text}
use Rattle.capture_text.specs.declared.left.AlternateText.{AlternateText}
use Rattle.capture_text.specs.HeadText.{head_text}
use Rattle.capture_text.specs.RoutesText.{line_unless}
use Rattle.capture_text.specs.Routes6Text.{route6_line}
use Rattle.capture_text.specs.AlternatesText.{backup_lines}

-- the head of a text of this name, where it is still to come, and a call for it
abbrev pub head_left : List ℕ → Option Counts → List ℕ
head_left name None = []
head_left name (Some counts) = head_text name counts.kept counts.skipped

abbrev pub head_call : Option Counts → ℕ
head_call None = 0
head_call (Some counts) = 1

-- the head, and the routes that are left; a call for each
abbrev pub routes_left : RoutesText → List ℕ
routes_left left =
    head_left (codes "isis-routes 1") left.head
    ++ flat_map (line_unless left.attached) left.routes.now

abbrev pub route_calls : RoutesText → ℕ
route_calls left = head_call left.head + length left.routes.now

abbrev pub routes6_left : Routes6Text → List ℕ
routes6_left left =
    head_left (codes "isis-routes6 1") left.head ++ flat_map route6_line left.routes.now

abbrev pub route6_calls : Routes6Text → ℕ
route6_calls left = head_call left.head + length left.routes.now

-- the head, and the targets and hops that are left; a call for each
abbrev pub alternates_left : AlternateText → List ℕ
alternates_left left =
    head_left (codes "isis-alternates 1") left.head ++ flat_map backup_lines left.backups.now

abbrev pub alternate_calls : AlternateText → ℕ
alternate_calls left = head_call left.head + length left.backups.now
