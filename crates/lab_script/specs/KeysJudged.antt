-- The reasons for which a line of a keys script that has a form is refused where it stands, and its limits (own).
use Rattle.std.specs.Prelude.{ℕ, not, nat_le, Bool, false, List, [], ◌∷◌, ◌++◌, length, Option, Some, None, is_some, if◌then◌else◌}
use Rattle.std.specs.List.{list_all}
use Rattle.std.specs.Str.{bytes_eq}
use Rattle.lab_keys.specs.declared.faults.LimitName.{LimitName}
use Rattle.lab_keys.specs.declared.faults.LimitName.TheVariants.{Routers, Links}
use Rattle.lab_keys.specs.declared.net.TheConstants.{ROUTER_LIMIT, LINK_LIMIT}
use Rattle.lab_keys.specs.KeysNet.{ordered}
use Rattle.lab_script.specs.declared.events.EventLine.{EventLine}
use Rattle.lab_script.specs.declared.events.KeyEvent.TheVariants as event
use Rattle.lab_script.specs.declared.line.KeysLine.{KeysLine}
use Rattle.lab_script.specs.declared.line.KeysLine.TheVariants.{Router, Link, Issue, Pass}
use Rattle.lab_script.specs.declared.reason.Reason.{Reason}
use Rattle.lab_script.specs.declared.reason.Reason.TheVariants.{Name, Again, NotOn}
use Rattle.lab_script.specs.Links.{has_link}
use Rattle.lab_script.specs.Names.{number_of_name}

-- what the lines so far say: the routers' names, the links by their ends' numbers, and the events with their lines
pub record KeysScript : Type 0 where
  pub routers : List (List ℕ)
  pub links : List (ℕ × ℕ)
  pub events : List EventLine

abbrev pub nothing_said : KeysScript
nothing_said = record { routers = []; links = []; events = [] }

-- the routers that a line speaks of
abbrev pub routers_of : KeysLine → List (List ℕ)
routers_of (Router name) = []
routers_of (Link first second) = first ∷ second ∷ []
routers_of (Issue router id key) = router ∷ []
routers_of (Pass copy from to) = from ∷ to ∷ []

abbrev pub is_known : List (List ℕ) → List ℕ → Bool
is_known names name = is_some (number_of_name names name)

-- it speaks of an unknown router
abbrev pub is_unknown : KeysScript → KeysLine → Bool
is_unknown so_far line = not (list_all (is_known so_far.routers) (routers_of line))

-- it gives a name that an earlier line gave, or links a router with itself
abbrev pub is_again : KeysScript → KeysLine → Bool
is_again so_far (Router name) = is_known so_far.routers name
is_again so_far (Link first second) = bytes_eq first second
is_again so_far (Issue router id key) = false
is_again so_far (Pass copy from to) = false

-- the numbers of two routers
abbrev pub both : Option ℕ → Option ℕ → Option (ℕ × ℕ)
both (Some a) (Some b) = Some (a, b)
both (Some a) None = None
both None b = None

-- whether some link joins the routers of these numbers
abbrev pub is_linked : KeysScript → Option ℕ → Option ℕ → Bool
is_linked so_far (Some a) (Some b) = has_link so_far.links (ordered a b)
is_linked so_far (Some a) None = false
is_linked so_far None b = false

-- it passes a copy where no link is
abbrev pub is_not_on : KeysScript → KeysLine → Bool
is_not_on so_far (Router name) = false
is_not_on so_far (Link first second) = false
is_not_on so_far (Issue router id key) = false
is_not_on so_far (Pass copy from to) =
    not (is_linked so_far (number_of_name so_far.routers from) (number_of_name so_far.routers to))

-- the first reason that applies, in this order
abbrev pub first_reason : KeysScript → KeysLine → Option Reason
first_reason so_far line =
    if is_unknown so_far line then Some Name
    else if is_again so_far line then Some Again
    else if is_not_on so_far line then Some NotOn
    else None

-- the limit that a line passes: 1,024 routers, 4,096 links
abbrev pub limit_of : KeysScript → KeysLine → Option LimitName
limit_of so_far (Router name) =
    if nat_le ROUTER_LIMIT (length so_far.routers) then Some Routers else None
limit_of so_far (Link first second) =
    if nat_le LINK_LIMIT (length so_far.links) then Some Links else None
limit_of so_far (Issue router id key) = None
limit_of so_far (Pass copy from to) = None

-- the number of a known name; 0 of another
abbrev pub or_zero : Option ℕ → ℕ
or_zero None = 0
or_zero (Some n) = n

abbrev pub number_in : List (List ℕ) → List ℕ → ℕ
number_in names name = or_zero (number_of_name names name)

-- what the lines say with a line more, of this number
abbrev pub with_line : KeysScript → ℕ → KeysLine → KeysScript
with_line so_far number (Router name) = record so_far { routers = so_far.routers ++ name ∷ [] }
with_line so_far number (Link first second) = record so_far {
  links = so_far.links ++ ordered (number_in so_far.routers first) (number_in so_far.routers second)
      ∷ [];
}
with_line so_far number (Issue router id key) = record so_far {
  events = so_far.events
      ++ record { line = number; event = event.Issue (number_in so_far.routers router) id key }
      ∷ [];
}
with_line so_far number (Pass copy from to) = record so_far {
  events = so_far.events
      ++ record {
        line = number;
        event = event.Pass copy (number_in so_far.routers from)
            (number_in so_far.routers to);
      } ∷ [];
}
