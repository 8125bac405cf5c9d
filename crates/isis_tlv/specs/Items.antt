-- What the values of codes 1, 6, 9, 22, 135 and 240 read as (ISO 10589 9, RFC 5305 3 and 4, RFC
-- 5303 3; the form: own).
use Rattle.std.specs.Prelude.{ℕ, suc, zero, ◌+◌, ◌-◌, ◌*◌, ◌/◌, ◌%◌, ◌^◌, ◌≤◌, ◌==◌, ◌&&◌, nat_le, List, [], ◌∷◌, length, take, drop, slice_index, Option, Some, None, Result, Err, if◌then◌else◌, option_and_then}
use Rattle.std.specs.Option.{ok_or, IfSome}
use Rattle.std.specs.Int.{bit_at}
use Rattle.isis_base.specs.declared.identifiers.Snpa.{Snpa}
use Rattle.isis_base.specs.declared.entry.LspEntry.{LspEntry}
use Rattle.isis_base.specs.declared.prefix.Prefix.{Prefix}
use Rattle.isis_base.specs.Prefixes.{prefix_from}
use Rattle.isis_tlv.specs.declared.prefix.PrefixItem.{PrefixItem}
use Rattle.isis_tlv.specs.declared.fault.ValueFault.{ValueFault}
use Rattle.isis_tlv.specs.declared.neighbour.NeighbourItem.{NeighbourItem}
use Rattle.isis_tlv.specs.declared.three_way.ThreeWay.{ThreeWay}
use Rattle.isis_tlv.specs.declared.three_way.Adj.{Adj}
use Rattle.isis_tlv.specs.declared.three_way.Adj.TheVariants.{Down, Initializing, Up}
use Rattle.isis_base.specs.Fields.{u16_at, u24_at, u32_at, system_at, node_at, lsp_at}
use Rattle.isis_tlv.specs.Walks.{items_of}

-- Each function below gives the item that octets begin with and the number of its octets, or None where none fits.
-- Past the end an octet counts as 0; the item then has more octets than there are.

-- an item of so many octets, where they are there (own)
abbrev pub item_of_size : {X : Type 0} → ℕ → List ℕ → X → Option (X × ℕ)
item_of_size count octets item = if nat_le count (length octets) then Some (item, count) else None

-- a length of 1 to 13, and as many octets (ISO 10589 9.5)
abbrev pub area_at : List ℕ → Option (List ℕ × ℕ)
area_at octets =
    let count = slice_index octets 0 in
    if nat_le 1 count && nat_le count 13 then item_of_size (1 + count) octets (take count (drop 1 octets))
    else None

-- six octets (ISO 10589 9.5)
abbrev pub snpa_at : List ℕ → Option (Snpa × ℕ)
snpa_at octets = item_of_size 6 octets (record { 0 = take 6 octets })

-- lifetime, LSP ID, sequence number and checksum (ISO 10589 9.10)
abbrev pub entry_at : List ℕ → Option (LspEntry × ℕ)
entry_at octets =
    item_of_size 16 octets
    (record {
      lifetime = u16_at 0 octets;
      id = lsp_at 2 octets;
      number = u32_at 10 octets;
      checksum = u16_at 14 octets;
    })

-- a node, a metric, a length and as many octets of sub-TLVs (RFC 5305 3)
abbrev pub neighbour_at : List ℕ → Option (NeighbourItem × ℕ)
neighbour_at octets =
    item_of_size (11 + slice_index octets 10) octets
    (record { node = node_at 0 octets; metric = u24_at 7 octets })

-- the number of octets that hold so many bits (RFC 5305 4)
abbrev pub octets_for : ℕ → ℕ
octets_for bits = (bits + 7) / 8

-- the address with its bits past the length 0 (own)
abbrev pub clear_past : ℕ → ℕ → ℕ
clear_past bits address = address / 2 ^ (32 - bits) * 2 ^ (32 - bits)

-- the address of the octets that hold a prefix of so many bits (RFC 5305 4)
abbrev pub address_of : ℕ → List ℕ → ℕ
address_of bits octets = clear_past bits (u32_at 0 (take (octets_for bits) octets))

-- after a prefix: nothing without the mark for sub-TLVs, else a length and as many octets (RFC 5305 4)
abbrev pub subs_at : ℕ → ℕ → List ℕ → ℕ
subs_at control place octets = if bit_at control 6 == 1 then 1 + slice_index octets place else 0

-- a metric, a control octet, as few octets as hold the prefix, and sub-TLVs (RFC 5305 4)
abbrev pub prefix_at : List ℕ → Option (PrefixItem × ℕ)
prefix_at octets =
    let control = slice_index octets 4 in
    let bits = control % 64 in
    let end = 5 + octets_for bits in
    option_and_then
    (λ (prefix : Prefix). item_of_size (end + subs_at control end octets) octets
    (record { prefix = prefix; metric = u32_at 0 octets; down = bit_at control 7 == 1 }))
    (prefix_from (address_of bits (drop 5 octets)) bits)

-- an item that octets begin with has at least one of them (own)
abbrev pub TakesSome : {X : Type 0} → (List ℕ → Option (X × ℕ)) → Type 0
TakesSome {X} first = (octets : List ℕ) → IfSome {T = X × ℕ} (first octets) (λ item. 1 ≤ item.1)

-- what a value reads as: its items, and the fault at the first octet of one that doesn't fit (own)
abbrev pub values_of : {X : Type 0} → (List ℕ → Option (X × ℕ)) → ℕ → List ℕ
    → List (Result X ValueFault)
values_of first place octets =
    items_of (λ at item. ok_or (first item) (record { place = at })) place octets

-- a fault at the first octet of an item, and nothing after it (own)
abbrev pub fault_alone : {X : Type 0} → ℕ → List (Result X ValueFault)
fault_alone place = Err (record { place = place }) ∷ []

-- what octets that begin at a place of a value of codes 1, 6, 9, 22 and 135 read as (own)
abbrev pub areas_from : ℕ → List ℕ → List (Result (List ℕ) ValueFault)
areas_from = values_of area_at

abbrev pub snpas_from : ℕ → List ℕ → List (Result Snpa ValueFault)
snpas_from = values_of snpa_at

abbrev pub entries_from : ℕ → List ℕ → List (Result LspEntry ValueFault)
entries_from = values_of entry_at

abbrev pub neighbours_from : ℕ → List ℕ → List (Result NeighbourItem ValueFault)
neighbours_from = values_of neighbour_at

abbrev pub prefixes_from : ℕ → List ℕ → List (Result PrefixItem ValueFault)
prefixes_from = values_of prefix_at

-- what the values of these codes read as (own)
abbrev pub areas_of : List ℕ → List (Result (List ℕ) ValueFault)
areas_of value = areas_from 0 value

abbrev pub snpas_of : List ℕ → List (Result Snpa ValueFault)
snpas_of value = snpas_from 0 value

abbrev pub entries_of : List ℕ → List (Result LspEntry ValueFault)
entries_of value = entries_from 0 value

abbrev pub neighbours_of : List ℕ → List (Result NeighbourItem ValueFault)
neighbours_of value = neighbours_from 0 value

abbrev pub prefixes_of : List ℕ → List (Result PrefixItem ValueFault)
prefixes_of value = prefixes_from 0 value

-- the state of its octet (RFC 5303 3)
abbrev pub state_of : ℕ → Option Adj
state_of zero = Some Up
state_of (suc zero) = Some Initializing
state_of (suc (suc zero)) = Some Down
state_of (suc (suc (suc n))) = None

-- a state alone, with the own extended circuit ID, or also with the neighbour and its ID (RFC 5303 3)
abbrev pub parts_at : List ℕ → Adj → Option ThreeWay
parts_at octets state =
    let own_id = Some (u32_at 1 octets) in
    let neighbour = Some (system_at 5 octets, u32_at 11 octets) in
    if length octets == 1 then Some (record { state = state; own_id = None; neighbour = None })
    else if length octets == 5
    then Some (record { state = state; own_id = own_id; neighbour = None })
    else if length octets == 15
    then Some (record { state = state; own_id = own_id; neighbour = neighbour })
    else None

-- what a three-way value reads as; a fault is at 0 (own)
abbrev pub three_way_of : List ℕ → Result ThreeWay ValueFault
three_way_of octets =
    ok_or (option_and_then (parts_at octets) (state_of (slice_index octets 0)))
    (record { place = 0 })
