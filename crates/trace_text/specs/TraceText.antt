-- The text of a trace (own).
use Rattle.std.specs.Prelude.{ℕ, Bool, List, [], ◌++◌, if◌then◌else◌, drop, map, slice_get, Option, Some, None, codes}
use Rattle.std.specs.List.{flat_map}
use Rattle.isis_base.specs.PrefixTexts.{address_text}
use Rattle.route_table.specs.declared.route.Route.{Route}
use Rattle.lab_report.specs.RouteLines.{hop_text, way_text}
use Rattle.lab_text.specs.Passed.{name_at, prefix_words, told_cost}
use Rattle.walk_text.specs.WalkText.{hop_words}
use Rattle.trace_core.specs.declared.outcomes.Outcomes.{Outcomes}
use Rattle.trace_core.specs.declared.step.End.{End}
use Rattle.trace_core.specs.declared.step.End.TheVariants as ended
use Rattle.trace_core.specs.declared.step.Traced.{Traced}
use Rattle.packet_trace.specs.declared.forwarder.Forwarder.{Forwarder}
use Rattle.packet_trace.specs.Steps.{node_of, place_of, route_at}

abbrev pub address_words : ℕ → List ℕ
address_words address = codes " " ++ address_text address

-- what becomes of the packet
abbrev pub end_word : End → List ℕ
end_word ended.Arrives = codes " arrives"
end_word ended.Lost = codes " lost"
end_word (ended.Loops back) = codes " loops"

-- `trace NAME ADDRESS arrives|lost|loops`
unfoldable pub trace_line : List ℕ → ℕ → End → List ℕ
trace_line name address end =
    codes "trace " ++ name ++ address_words address ++ end_word end ++ codes "\n"

-- ---- a router on the way

-- ` stranger SYSTEM`, a next hop by its number
abbrev pub stranger_words : ℕ → List ℕ
stranger_words hop = codes " stranger" ++ hop_text hop

-- ` to NAME`, of the router that the packet is handed to, or that it is none of the routers
abbrev pub to_words : List (List ℕ) → ℕ → Option ℕ → List ℕ
to_words names hop (Some place) = codes " to " ++ name_at names place
to_words names hop None = stranger_words hop

unfoldable pub next_words : List (List ℕ) → List ℕ → ℕ → List ℕ
next_words names nodes hop = to_words names hop (place_of nodes hop)

-- a router's own prefix has no next hop
abbrev pub hand_words : List (List ℕ) → List ℕ → Option ℕ → List ℕ
hand_words names nodes None = []
hand_words names nodes (Some hop) = next_words names nodes hop

-- ` PREFIX RANK COST to NAME`, ` PREFIX own COST` or ` PREFIX RANK COST stranger SYSTEM`
unfoldable pub route_words : List (List ℕ) → List ℕ → Route → List ℕ
route_words names nodes route =
    prefix_words route.prefix ++ way_text route.rank (told_cost route.cost)
    ++ hand_words names nodes (slice_get route.hops 0)

abbrev pub found_words : List (List ℕ) → List ℕ → Option Route → List ℕ
found_words names nodes None = codes " no-route"
found_words names nodes (Some route) = route_words names nodes route

-- `at NAME` and the route that the router goes by; `at NAME no-route`
unfoldable pub at_line : List (List ℕ) → List Forwarder → ℕ → ℕ → List ℕ
at_line names forwarders address place =
    codes "at " ++ name_at names place
    ++ found_words names (map node_of forwarders) (route_at forwarders address place) ++ codes "\n"

-- ---- the whole text

-- `round NAME NAME`, the routers among which the packet goes round; where it doesn't there is no such line
unfoldable pub round_line : List (List ℕ) → List ℕ → End → List ℕ
round_line names places ended.Arrives = []
round_line names places ended.Lost = []
round_line names places (ended.Loops back) =
    codes "round" ++ flat_map (hop_words names) (drop back places) ++ codes "\n"

-- a word where it holds
abbrev pub word_if : Bool → List ℕ → List ℕ
word_if holds word = if holds then word else []

-- `whichever [arrives] [loops] [lost]`, what may become of the packet by any next hops of equal cost
unfoldable pub whichever_line : Outcomes → List ℕ
whichever_line outcomes =
    codes "whichever" ++ word_if outcomes.arrives (codes " arrives")
    ++ word_if outcomes.loops (codes " loops") ++ word_if outcomes.lost (codes " lost") ++ codes "\n"

-- the text of a trace from a router of this name, where routers are named so by their numbers
unfoldable pub trace_text : List (List ℕ) → List ℕ → List Forwarder → ℕ → Traced → Outcomes → List ℕ
trace_text names name forwarders address traced outcomes =
    codes "isis-trace 1\n" ++ trace_line name address traced.end
    ++ flat_map (at_line names forwarders address) traced.places.items
    ++ round_line names traced.places.items traced.end ++ whichever_line outcomes
