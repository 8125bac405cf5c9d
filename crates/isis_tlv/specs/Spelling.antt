-- What is written of the values of codes 1, 6, 9, 22, 129, 132, 135 and 240
-- (ISO 10589 9, RFC 1195 5.3, RFC 5303 3, RFC 5305 3 and 4; the form: own).
use Rattle.std.specs.Prelude.{ℕ, ◌+◌, List, [], ◌∷◌, ◌++◌, length, take, Option, Some, None, if◌then◌else◌}
use Rattle.std.specs.List.{flat_map}
use Rattle.isis_base.specs.declared.identifiers.Snpa.{Snpa}
use Rattle.isis_base.specs.declared.identifiers.SystemId.{SystemId}
use Rattle.isis_base.specs.declared.entry.LspEntry.{LspEntry}
use Rattle.isis_base.specs.Identifiers.{node_octets, lsp_octets}
use Rattle.isis_tlv.specs.declared.neighbour.NeighbourItem.{NeighbourItem}
use Rattle.isis_tlv.specs.declared.prefix.PrefixItem.{PrefixItem}
use Rattle.isis_tlv.specs.declared.three_way.ThreeWay.{ThreeWay}
use Rattle.isis_tlv.specs.declared.three_way.Adj.{Adj}
use Rattle.isis_tlv.specs.declared.three_way.Adj.TheVariants.{Down, Initializing, Up}
use Rattle.isis_base.specs.Fields.{u16_octets, u24_octets, u32_octets}
use Rattle.isis_tlv.specs.Items.{octets_for}
use Rattle.isis_tlv.specs.Tlvs.{tlv_octets}

-- area addresses (ISO 10589 9.5)
abbrev pub area_octets : List ℕ → List ℕ
area_octets area = length area ∷ area

abbrev pub area_value : List (List ℕ) → List ℕ
area_value areas = flat_map area_octets areas

abbrev pub area_tlv : List (List ℕ) → List ℕ
area_tlv areas = tlv_octets 1 (area_value areas)

-- SNPAs of neighbours on a LAN (ISO 10589 9.5)
abbrev pub snpa_value : List Snpa → List ℕ
snpa_value list = flat_map (λ snpa. snpa.0) list

abbrev pub snpa_tlv : List Snpa → List ℕ
snpa_tlv list = tlv_octets 6 (snpa_value list)

-- LSP entries (ISO 10589 9.10)
abbrev pub entry_octets : LspEntry → List ℕ
entry_octets entry =
    u16_octets entry.lifetime ++ lsp_octets entry.id ++ u32_octets entry.number
    ++ u16_octets entry.checksum

abbrev pub entry_value : List LspEntry → List ℕ
entry_value list = flat_map entry_octets list

abbrev pub entry_tlv : List LspEntry → List ℕ
entry_tlv list = tlv_octets 9 (entry_value list)

-- neighbours without sub-TLVs (RFC 5305 3)
abbrev pub neighbour_octets : NeighbourItem → List ℕ
neighbour_octets item = node_octets item.node ++ u24_octets item.metric ++ 0 ∷ []

-- a neighbour with these octets of sub-TLVs behind their length (RFC 5305 3)
abbrev pub neighbour_with_subs : NeighbourItem → List ℕ → List ℕ
neighbour_with_subs item subs =
    node_octets item.node ++ (u24_octets item.metric ++ length subs ∷ subs)

abbrev pub neighbour_value : List NeighbourItem → List ℕ
neighbour_value list = flat_map neighbour_octets list

abbrev pub neighbour_tlv : List NeighbourItem → List ℕ
neighbour_tlv list = tlv_octets 22 (neighbour_value list)

-- prefixes without sub-TLVs (RFC 5305 4)
abbrev pub prefix_octets : PrefixItem → List ℕ
prefix_octets item =
    u32_octets item.metric ++ ((if item.down then 128 else 0) + item.prefix.length)
    ∷ take (octets_for item.prefix.length) (u32_octets item.prefix.address)

-- a prefix with the mark for sub-TLVs, and their octets behind their length (RFC 5305 4)
abbrev pub prefix_with_subs : PrefixItem → List ℕ → List ℕ
prefix_with_subs item subs =
    u32_octets item.metric ++ ((if item.down then 128 else 0) + 64 + item.prefix.length)
    ∷ (take (octets_for item.prefix.length) (u32_octets item.prefix.address) ++ length subs ∷ subs)

abbrev pub prefix_value : List PrefixItem → List ℕ
prefix_value list = flat_map prefix_octets list

abbrev pub prefix_tlv : List PrefixItem → List ℕ
prefix_tlv list = tlv_octets 135 (prefix_value list)

-- IPv4 addresses (RFC 1195 5.3)
abbrev pub address_value : List ℕ → List ℕ
address_value list = flat_map u32_octets list

abbrev pub address_tlv : List ℕ → List ℕ
address_tlv list = tlv_octets 132 (address_value list)

-- the one protocol, IPv4 (RFC 1195 5.3)
abbrev pub protocol_tlv : List ℕ
protocol_tlv = tlv_octets 129 (204 ∷ [])

-- three-way state and IDs (RFC 5303 3)
abbrev pub state_octet : Adj → ℕ
state_octet Up = 0
state_octet Initializing = 1
state_octet Down = 2

abbrev pub own_octets : Option ℕ → List ℕ
own_octets None = []
own_octets (Some id) = u32_octets id

abbrev pub neighbour_part : Option (SystemId × ℕ) → List ℕ
neighbour_part None = []
neighbour_part (Some neighbour) = neighbour.0.0 ++ u32_octets neighbour.1

abbrev pub three_way_octets : ThreeWay → List ℕ
three_way_octets value =
    state_octet value.state ∷ own_octets value.own_id ++ neighbour_part value.neighbour

abbrev pub three_way_tlv : ThreeWay → List ℕ
three_way_tlv value = tlv_octets 240 (three_way_octets value)
