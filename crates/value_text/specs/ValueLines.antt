-- The lines of what the values of TLVs say (own).
use Rattle.std.specs.Prelude.{ℕ, ◌==◌, Bool, true, false, List, [], ◌∷◌, ◌++◌, flat_map, Option, Some, None, codes, decimal, Result, Ok, Err, if◌then◌else◌}
use Rattle.isis_base.specs.declared.entry.LspEntry.{LspEntry}
use Rattle.isis_base.specs.declared.identifiers.Snpa.{Snpa}
use Rattle.isis_base.specs.declared.identifiers.SystemId.{SystemId}
use Rattle.isis_base.specs.AreaTexts.{area_text}
use Rattle.isis_base.specs.Fields.{u16_octets}
use Rattle.isis_base.specs.PrefixTexts.{address_text, prefix_text}
use Rattle.isis_base.specs.Texts.{hex_pair, lsp_text, node_text, snpa_text, system_text}
use Rattle.isis_tlv.specs.declared.fault.ValueFault.{ValueFault}
use Rattle.isis_tlv.specs.declared.neighbour.NeighbourItem.{NeighbourItem}
use Rattle.isis_tlv.specs.declared.prefix.PrefixItem.{PrefixItem}
use Rattle.isis_tlv.specs.declared.three_way.Adj.{Adj}
use Rattle.isis_tlv.specs.declared.three_way.Adj.TheVariants.{Down, Initializing, Up}
use Rattle.isis_tlv.specs.declared.three_way.ThreeWay.{ThreeWay}
use Rattle.isis_tlv.specs.Items.{areas_of, entries_of, neighbours_of, prefixes_of, snpas_of, three_way_of}
use Rattle.value_text.specs.declared.address.Address.{Address}
use Rattle.value_text.specs.Addresses.{addresses_of}

-- ---- items

-- `area AREA`
abbrev pub area_line : List ℕ → List ℕ
area_line area = codes "area " ++ area_text area ++ codes "\n"

-- `snpa SNPA`
abbrev pub snpa_line : Snpa → List ℕ
snpa_line snpa = codes "snpa " ++ snpa_text snpa ++ codes "\n"

-- two octets in hex
unfoldable pub checksum_text : ℕ → List ℕ
checksum_text checksum = flat_map hex_pair (u16_octets checksum)

-- `entry ID number N lifetime L checksum XXXX`
abbrev pub entry_line : LspEntry → List ℕ
entry_line entry =
    (codes "entry " ++ lsp_text entry.id) ++ (codes " number " ++ decimal entry.number)
    ++ (codes " lifetime " ++ decimal entry.lifetime) ++ codes " checksum " ++ checksum_text entry.checksum
    ++ codes "\n"

-- `neighbour NODE metric M`
abbrev pub neighbour_line : NeighbourItem → List ℕ
neighbour_line item =
    (codes "neighbour " ++ node_text item.node) ++ (codes " metric " ++ decimal item.metric)
    ++ codes "\n"

abbrev pub down_word : Bool → List ℕ
down_word true = codes " down\n"
down_word false = codes "\n"

-- `prefix PREFIX metric M`, and `down` where the prefix came down from level 2
abbrev pub prefix_line : PrefixItem → List ℕ
prefix_line item =
    codes "prefix " ++ prefix_text item.prefix.address item.prefix.length
    ++ (codes " metric " ++ decimal item.metric) ++ down_word item.down

-- `address ADDRESS`
abbrev pub address_line : Address → List ℕ
address_line address = codes "address " ++ address_text address.number ++ codes "\n"

-- `misfit PLACE`: at this octet of the value, counted from 0, stands no item; what follows isn't read
abbrev pub misfit_line : ValueFault → List ℕ
misfit_line fault = (codes "misfit " ++ decimal fault.place) ++ codes "\n"

abbrev pub item_line : {X : Type 0} → (X → List ℕ) → Result X ValueFault → List ℕ
item_line line (Ok item) = line item
item_line line (Err fault) = misfit_line fault

-- ---- values that are one item

abbrev pub state_word : Adj → List ℕ
state_word Down = codes "three-way down"
state_word Initializing = codes "three-way initializing"
state_word Up = codes "three-way up"

-- the extended circuit ID of the sender
abbrev pub circuit_words : Option ℕ → List ℕ
circuit_words None = []
circuit_words (Some id) = codes " circuit " ++ decimal id

-- the neighbour that it hears, with its extended circuit ID
abbrev pub heard_words : Option (SystemId × ℕ) → List ℕ
heard_words None = []
heard_words (Some heard) = (codes " hears " ++ system_text heard.0) ++ codes " circuit " ++ decimal heard.1

-- `three-way STATE circuit ID hears SYSTEM circuit ID`
abbrev pub three_way_line : ThreeWay → List ℕ
three_way_line value =
    state_word value.state ++ circuit_words value.own_id ++ heard_words value.neighbour ++ codes "\n"

-- `authentication TYPE`
abbrev pub authentication_line : List ℕ → List ℕ
authentication_line [] = misfit_line (record { place = 0 })
authentication_line (kind ∷ digest) = (codes "authentication " ++ decimal kind) ++ codes "\n"

-- ---- values

-- a line for each item of a value, and for the first place at which there is none
abbrev pub items_lines : {X : Type 0} → (X → List ℕ) → List (Result X ValueFault) → List ℕ
items_lines line items = flat_map (item_line line) items

-- the lines of a value, by its code; none of other codes
unfoldable pub value_lines : ℕ → List ℕ → List ℕ
value_lines code value =
    if code == 1 then items_lines area_line (areas_of value)
    else if code == 6 then items_lines snpa_line (snpas_of value)
    else if code == 9 then items_lines entry_line (entries_of value)
    else if code == 10 then authentication_line value
    else if code == 22 then items_lines neighbour_line (neighbours_of value)
    else if code == 132 then items_lines address_line (addresses_of value)
    else if code == 135 then items_lines prefix_line (prefixes_of value)
    else if code == 240 then item_line three_way_line (three_way_of value)
    else []
