-- What the octets of an LSP say behind its header (ISO 10589 9.8).
use Rattle.std.specs.Prelude.{ℕ, ◌==◌, nat_lt, List, [], length, drop, Result, is_none, if◌then◌else◌}
use Rattle.std.specs.List.{flat_map}
use Rattle.std.specs.Result.{ok_prefix}
use Rattle.isis_tlv.specs.declared.fault.ValueFault.{ValueFault}
use Rattle.isis_tlv.specs.declared.neighbour.NeighbourItem.{NeighbourItem}
use Rattle.isis_tlv.specs.declared.prefix.PrefixItem.{PrefixItem}
use Rattle.isis_tlv.specs.Walks.{fault_of}
use Rattle.isis_tlv.specs.Tlvs.{TlvView, tlvs_of, tlv_list}
use Rattle.isis_tlv.specs.Items.{areas_of, neighbours_of, prefixes_of}

-- the octets behind the header; none where they aren't a header and TLVs (ISO 10589 9.8)
unfoldable pub body_of : List ℕ → List ℕ
body_of octets =
    if nat_lt (length octets) 27 then []
    else if is_none (fault_of (tlvs_of 0 (drop 27 octets))) then drop 27 octets else []

-- the items of a value; one with a fault is unread (own)
unfoldable pub whole : {X : Type 0} → List (Result X ValueFault) → List X
whole items = if is_none (fault_of items) then ok_prefix items else []

-- what a TLV says where it has the code, by a reader of values (own)
abbrev pub items_if : {X : Type 0} → ℕ → (List ℕ → List (Result X ValueFault)) → TlvView → List X
items_if code reader tlv = if tlv.code == code then whole (reader tlv.value) else []

-- what all TLVs of a code say, in order (own)
unfoldable pub items_in : {X : Type 0} → ℕ → (List ℕ → List (Result X ValueFault)) → List ℕ
    → List X
items_in code reader octets = flat_map (items_if code reader) (tlv_list 0 (body_of octets))

-- the neighbours, prefixes and area addresses that an LSP lists (RFC 5305 3, 4, ISO 10589 9.8)
abbrev pub neighbours_in : List ℕ → List NeighbourItem
neighbours_in octets = items_in 22 neighbours_of octets

abbrev pub prefixes_in : List ℕ → List PrefixItem
prefixes_in octets = items_in 135 prefixes_of octets

abbrev pub areas_in : List ℕ → List (List ℕ)
areas_in octets = items_in 1 areas_of octets
