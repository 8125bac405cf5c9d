-- What the live LSPs of a database say of the graph, of prefixes and of areas (ISO 10589 7.2.8).
use Rattle.std.specs.Prelude.{ℕ, ◌≤◌, ◌==◌, nat_le, Bool, false, ◌&&◌, List, [], length, map, filter, Option, Some, None, is_some, if◌then◌else◌}
use Rattle.std.specs.Int.{bit_at}
use Rattle.std.specs.List.{flat_map}
use Rattle.isis_base.specs.declared.identifiers.SystemId.{SystemId}
use Rattle.isis_base.specs.declared.identifiers.NodeId.{NodeId}
use Rattle.isis_base.specs.declared.identifiers.LspId.{LspId}
use Rattle.isis_base.specs.Identifiers.{lsp_number}
use Rattle.isis_tlv.specs.declared.neighbour.NeighbourItem.{NeighbourItem}
use Rattle.isis_tlv.specs.declared.prefix.PrefixItem.{PrefixItem}
use Rattle.lsp_store.specs.declared.entry.Entry.{Entry}
use Rattle.lsp_store.specs.Maps.{find, between}
use Rattle.lsp_store.specs.Databases.{is_live, live_of}
use Rattle.spf_tree.specs.declared.row.Row.{Row}
use Rattle.lsp_view.specs.Bodies.{neighbours_in, prefixes_in, areas_in}

-- the number of a node's LSP of a number (ISO 10589 9.8)
abbrev pub number_of : NodeId → ℕ → ℕ
number_of node number = lsp_number (record { node = node; number = number })

-- the node that a system is (ISO 10589 7.2.3)
abbrev pub own_node : SystemId → NodeId
own_node system = record { system = system; pseudonode = 0 }

-- own
abbrev pub where_live : Option Entry → Option Entry
where_live None = None
where_live (Some entry) = if is_live entry then Some entry else None

-- the live LSP of number 0 of a node, without which its others say nothing (ISO 10589 7.2.5)
abbrev pub lead_of : List (LspId × Entry) → NodeId → Option Entry
lead_of entries node = where_live (find entries (number_of node 0))

-- ---- rows

abbrev pub row_from : NodeId → NeighbourItem → Row
row_from node item = record { from = node; to = item.node; metric = item.metric }

-- the rows that an LSP lists (RFC 5305 3)
abbrev pub rows_of : LspId × Entry → List Row
rows_of pair = map (row_from pair.0.node) (neighbours_in pair.1.octets)

-- those of an LSP whose node has a live number 0 (ISO 10589 7.2.5)
abbrev pub led_rows : List (LspId × Entry) → LspId × Entry → List Row
led_rows entries pair = if is_some (lead_of entries pair.0.node) then rows_of pair else []

-- the rows of the live LSPs, in the order of LSP ID and place (ISO 10589 7.2.5)
unfoldable pub rows_in : List (LspId × Entry) → List Row
rows_in entries = flat_map (led_rows entries) (live_of entries)

-- an LSP of at most 65,535 octets (ISO 10589 9.8)
abbrev pub IsShort : LspId × Entry → Type 0
IsShort pair = length pair.1.octets ≤ 65535

-- ---- nodes and systems

-- whether an LSP of number 0 has the overload bit (ISO 10589 9.8)
abbrev pub is_overloaded : LspId × Entry → Bool
is_overloaded pair = pair.0.number == 0 && bit_at pair.1.flags 2 == 1

-- the nodes whose live number 0 has it, in order (ISO 10589 7.2.8.1)
unfoldable pub overloaded_in : List (LspId × Entry) → List NodeId
overloaded_in entries =
    map (λ (pair : LspId × Entry). pair.0.node) (filter is_overloaded (live_of entries))

-- a prefix of a metric that may be reached (RFC 5305 4)
abbrev pub is_reachable : PrefixItem → Bool
is_reachable item = nat_le item.metric 4261412864

-- the prefixes that an LSP lists, of such a metric (RFC 5305 4)
abbrev pub reach_of : LspId × Entry → List PrefixItem
reach_of pair = filter is_reachable (prefixes_in pair.1.octets)

-- own
abbrev pub where_led : {X : Type 0} → Option Entry → List X → List X
where_led None items = []
where_led (Some lead) items = items

-- the prefixes that the live LSPs of a system list, in the order of LSP ID and place (RFC 5305 4)
unfoldable pub reach_in : List (LspId × Entry) → SystemId → List PrefixItem
reach_in entries system =
    let node = own_node system in
    where_led (lead_of entries node)
    (flat_map reach_of (live_of (between (number_of node 0) (number_of node 255) entries)))

-- the rows that the live LSPs of one node list, in the order of LSP ID and place (ISO 10589 7.2.5)
unfoldable pub rows_at : List (LspId × Entry) → NodeId → List Row
rows_at entries node =
    where_led (lead_of entries node)
    (flat_map rows_of (live_of (between (number_of node 0) (number_of node 255) entries)))

-- the area addresses that a system's live number 0 lists (ISO 10589 9.8)
abbrev pub areas_at : Option Entry → List (List ℕ)
areas_at None = []
areas_at (Some lead) = areas_in lead.octets

-- whether an LSP has the attached bit, of the default metric (ISO 10589 9.8)
abbrev pub attached_at : Option Entry → Bool
attached_at None = false
attached_at (Some lead) = bit_at lead.flags 3 == 1

-- whether an LSP has the overload bit (ISO 10589 9.8)
abbrev pub overload_at : Option Entry → Bool
overload_at None = false
overload_at (Some lead) = bit_at lead.flags 2 == 1
