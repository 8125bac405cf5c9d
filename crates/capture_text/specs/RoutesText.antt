-- The text of the IPv4 routes of a system in captured LSPs (own).

use Rattle.std.specs.Prelude.{◌≡◌, ℕ, Bool, true, false, ◌&&◌, List, [], ◌++◌, codes, Option, if◌then◌else◌}
use Rattle.std.specs.List.{flat_map}
use Rattle.isis_base.specs.declared.level.Level.{Level}
use Rattle.isis_base.specs.declared.identifiers.SystemId.{SystemId}
use Rattle.line_cuts.specs.Words.{lines_of}
use Rattle.lsp_view.specs.Views.{own_node, lead_of, attached_at}
use Rattle.route_table.specs.declared.rank.Rank.{Rank}
use Rattle.route_table.specs.declared.rank.Rank.TheVariants as rank
use Rattle.route_table.specs.declared.route.Route.{Route}
use Rattle.capture_text.specs.declared.read.Read.{Read}
use Rattle.capture_text.specs.Reading.{nothing_read, AreRead}
use Rattle.capture_text.specs.declared.absence.Absence.{Absence}
use Rattle.capture_text.specs.Absences.{absence_of}
use Rattle.capture_text.specs.CapturedRoutes.{AreRoutesAt}
use Rattle.capture_text.specs.HeadText.{head_text}
use Rattle.route_text.specs.RouteLine.{route_line}

-- whether a route is the way to a system that is attached to level 2 (RFC 1195 3.2)
abbrev pub is_default : Rank → Bool
is_default rank.Own = false
is_default rank.One = false
is_default rank.Two = false
is_default rank.OneDown = false
is_default rank.Default = true

-- a line for a route; none for the way to an attached system where the system is attached itself (own)
abbrev pub line_unless : Bool → Route → List ℕ
line_unless attached route =
    if attached && is_default route.rank then [] else route_line route

-- the head, and a line for each route
abbrev pub routes_text : Read → Bool → List Route → List ℕ
routes_text read attached routes =
    head_text (codes "isis-routes 1") read.kept read.skipped
    ++ flat_map (line_unless attached) routes

-- a text has the IPv4 routes of a system in the LSPs of a level that an input has, and these lack what is said
pub record IsRoutesText (level : Level) (system : SystemId) (input : List ℕ)
    (absence : Option Absence) (text : List ℕ) : Type 0 where
  pub read : Read
  pub reads : AreRead (nothing_read level) (lines_of input) read
  pub lacks : absence ≡ absence_of system read.capture.entries
  pub routes : List Route
  pub best : AreRoutesAt level system read.capture.entries routes
  pub text_is : text ≡ routes_text read
      (attached_at (lead_of read.capture.entries (own_node system))) routes
