-- A trace where there is a walk (RFC 1195 3.10; the form: own).
use Rattle.std.specs.Prelude.{◌≡◌, ℕ, List, ◌∷◌, Some}
use Rattle.std.specs.List.{Contains}
use Rattle.isis_base.specs.declared.prefix.Prefix.{Prefix}
use Rattle.route_table.specs.declared.route.Route.{Route}
use Rattle.route_table.specs.Ranks.{prefix_number}
use Rattle.route_table.specs.Lookups.{IsLongest}
use Rattle.trace_core.specs.declared.step.End.TheVariants as ended
use Rattle.packet_trace.specs.declared.forwarder.Forwarder.{Forwarder}
use Rattle.packet_trace.specs.Steps.{route_at}
use Rattle.trace_text.specs.Arrivals.{arrives_alone}
use Rattle.walk_text.specs.declared.walked.Walked.{Walked}
use Rattle.trace_text.specs.declared.find.Trace.{Trace}

-- each router that has a route of the prefix looks the address up as that: it has no longer one
abbrev pub AreLookedUpAs : List Forwarder → ℕ → Prefix → Type 0
AreLookedUpAs forwarders address prefix = (forwarder : Forwarder) (route : Route)
    → Contains forwarders forwarder → Contains forwarder.routes route
    → prefix_number route.prefix ≡ prefix_number prefix
    → IsLongest forwarder.routes address route

-- it arrives over the same routers, at the cost of the walk; and so it does whichever next hops it takes
pub record IsAsWalked (from address : ℕ) (walked : Walked) (trace : Trace) : Type 0 where
  pub arrives : trace.traced.end ≡ ended.Arrives
  pub places : trace.traced.places.items ≡ from ∷ walked.routers.items
  pub route : Route
  pub goes_by : route_at trace.forwarders.items address from ≡ Some route
  pub cost : walked.cost ≡ route.cost
  pub alone : trace.outcomes ≡ arrives_alone
