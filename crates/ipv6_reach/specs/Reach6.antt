-- The IPv6 prefixes that systems tell, and what they may be reached by (RFC 5308 2, 5; RFC 5302 3.2).

use Rattle.std.specs.Prelude.{ℕ, ◌+◌, ◌==◌, nat_le, Bool, ◌&&◌, not, List, [], ◌++◌, map, filter, Option, Some, None, if◌then◌else◌}
use Rattle.std.specs.List.{flat_map}
use Rattle.isis_base.specs.declared.identifiers.SystemId.{SystemId}
use Rattle.isis_base.specs.declared.identifiers.LspId.{LspId}
use Rattle.lsp_store.specs.declared.entry.Entry.{Entry}
use Rattle.lsp_store.specs.Maps.{between}
use Rattle.lsp_store.specs.Databases.{live_of}
use Rattle.lsp_view.specs.Bodies.{items_in}
use Rattle.lsp_view.specs.Views.{number_of, own_node, lead_of, where_led}
use Rattle.spf_tree.specs.Nodes.{node_number, system_node}
use Rattle.spf_tree.specs.Distances.{cost_at}
use Rattle.ipv6_reach.specs.declared.item6.Prefix6Item.{Prefix6Item}
use Rattle.ipv6_reach.specs.declared.rank6.Rank6.TheVariants.{Own, Up, Down}
use Rattle.ipv6_reach.specs.declared.candidate6.Candidate6.{Candidate6}
use Rattle.ipv6_reach.specs.Items6.{prefixes6_of}

-- ---- the prefixes that a system tells

-- a prefix of a metric that may be reached (RFC 5308 2)
abbrev pub is_reachable6 : Prefix6Item → Bool
is_reachable6 item = nat_le item.metric 4261412864

-- the prefixes that an LSP lists, of such a metric (RFC 5308 2)
abbrev pub reach6_of : LspId × Entry → List Prefix6Item
reach6_of pair = filter is_reachable6 (items_in 236 prefixes6_of pair.1.octets)

-- the prefixes that the live LSPs of a system list, where its number 0 is held live, in the order of LSP ID and place
-- (ISO 10589 7.2.5)
unfoldable pub reach6_in : List (LspId × Entry) → SystemId → List Prefix6Item
reach6_in entries system =
    let node = own_node system in
    where_led (lead_of entries node)
    (flat_map reach6_of (live_of (between (number_of node 0) (number_of node 255) entries)))

-- ---- what prefixes may be reached by

-- the root's own prefix, at its metric (own)
abbrev pub own6 : SystemId → Prefix6Item → Candidate6
own6 root item =
    record { prefix = item.prefix; rank = Own; cost = item.metric; origin = own_node root }

-- a prefix that another system tells: what it costs to reach the system, and the metric (RFC 5308 5)
abbrev pub told6 : SystemId → ℕ → Prefix6Item → Candidate6
told6 system cost item = record {
  prefix = item.prefix;
  rank = if item.down then Down else Up;
  cost = cost + item.metric;
  origin = own_node system;
}

-- the prefixes of a system that is reached at this cost
abbrev pub reached6 : List (LspId × Entry) → SystemId → Option ℕ → List Candidate6
reached6 entries system None = []
reached6 entries system (Some cost) = map (told6 system cost) (reach6_in entries system)

-- whether an LSP is number 0 of a system other than the root (ISO 10589 7.2.5)
abbrev pub leads_other : SystemId → LspId → Bool
leads_other root id =
    (id.number == 0 && id.node.pseudonode == 0) && not (node_number id.node == system_node root)

-- the prefixes of the system that such an LSP leads, by the least costs from the root
abbrev pub beside6 : List (LspId × Entry) → SystemId → List (ℕ × ℕ) → LspId → List Candidate6
beside6 entries root costs id =
    if leads_other root id
    then reached6 entries id.node.system (cost_at costs (node_number id.node)) else []

-- all of them, by the least costs from the root: its own prefixes, and those of each other system that is reached
unfoldable pub candidates6 : List (LspId × Entry) → SystemId → List (ℕ × ℕ) → List Candidate6
candidates6 entries root costs =
    map (own6 root) (reach6_in entries root)
    ++ flat_map (λ (pair : LspId × Entry). beside6 entries root costs pair.0) (live_of entries)
