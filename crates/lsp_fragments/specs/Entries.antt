-- What an own LSP says: what its first fragment begins with, and the entries of its TLVs (ISO 10589
-- 9.8).
use Rattle.std.specs.Prelude.{ℕ, ◌/◌, List, [], ◌++◌, map, take, drop, if◌then◌else◌}
use Rattle.isis_base.specs.Identifiers.{lsp_number}
use Rattle.isis_base.specs.Prefixes.{prefix_number}
use Rattle.isis_tlv.specs.declared.neighbour.NeighbourItem.{NeighbourItem}
use Rattle.isis_tlv.specs.declared.prefix.PrefixItem.{PrefixItem}
use Rattle.isis_tlv.specs.Spelling.{area_tlv, protocol_tlv, neighbour_octets, prefix_octets}
use Rattle.model_router.specs.Splits.{Item}
use Rattle.lsp_fragments.specs.declared.content.Content.{Content}
use Rattle.model_router.specs.LspPrefixes.{Reach}
use Rattle.model_router.specs.Wanted.{some_addresses}

-- a neighbour's entry of TLV 22 (RFC 5305 3)
abbrev pub neighbour_entry : NeighbourItem → Item
neighbour_entry item = record { code = 22; octets = neighbour_octets item }

-- a prefix's entry of TLV 135 (RFC 5305 4)
abbrev pub prefix_entry : PrefixItem → Item
prefix_entry item = record { code = 135; octets = prefix_octets item }

-- the neighbours, then the prefixes (ISO 10589 9.8)
abbrev pub content_entries : Content → List Item
content_entries content =
    map neighbour_entry content.neighbours.items ++ map prefix_entry content.prefixes.items

-- TLVs of addresses, at most 63 to a TLV (RFC 1195 5.3)
unfoldable pub address_tlvs : List ℕ → List ℕ
address_tlvs addresses = some_addresses (take 63 addresses) ++ some_addresses (drop 63 addresses)

-- what fragment 0 begins with: area addresses, IPv4, and addresses (ISO 10589 9.8); of a pseudonode
-- nothing (7.3.8)
abbrev pub content_first : Content → List ℕ
content_first content =
    if content.pseudonode then []
    else area_tlv content.areas.items ++ (protocol_tlv ++ address_tlvs content.addresses.items)

-- a neighbour as the router's model has it: its node, an LSP ID's number without the last octet,
-- and the metric (own)
abbrev pub node_and_metric : NeighbourItem → ℕ × ℕ
node_and_metric item = (lsp_number (record { node = item.node; number = 0 }) / 256, item.metric)

-- a prefix as the router's model has it: 64 times its address plus its length, the metric, and the
-- up/down bit (own)
abbrev pub reach_pair : PrefixItem → ℕ × Reach
reach_pair item = (
  prefix_number item.prefix,
  record { metric = item.metric; down = item.down },
)
