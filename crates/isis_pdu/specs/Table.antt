-- The tests on octets, in order, each with the fault where it fails (ISO 10589 9; the order: own).
use Rattle.std.specs.Prelude.{ℕ, ◌%◌, ◌==◌, nat_le, ◌&&◌, ◌||◌, not, Bool, List, [], ◌∷◌, ◌++◌, length, slice_index, Option, Some, None, if◌then◌else◌}
use Rattle.std.specs.Option.{is_some, is_none, option_map, unwrap_or}
use Rattle.isis_tlv.specs.declared.tlv.TlvFault.{TlvFault}
use Rattle.isis_tlv.specs.declared.tlv.TlvFault.TheVariants.{Header, Past}
use Rattle.isis_tlv.specs.Walks.{fault_of}
use Rattle.isis_tlv.specs.Tlvs.{tlvs_of}
use Rattle.isis_base.specs.declared.pdu_kind.PduKind.{PduKind}
use Rattle.isis_pdu.specs.declared.fault.PduFault.{PduFault}
use Rattle.isis_pdu.specs.declared.fault.PduFaultKind.{PduFaultKind}
use Rattle.isis_pdu.specs.declared.fault.PduFaultKind.TheVariants.{Short, Discriminator, Version, IdLength, PduType, MaxAreas, HeaderLength, CircuitType, PduLength, Tlv}
use Rattle.isis_base.specs.PduKinds.{kind_at, header_length, is_hello, length_place}
use Rattle.isis_pdu.specs.Layout.{length_at, body_at}

-- a test, and the fault where it fails (own)
pub record Test : Type 0 where
  pub holds : Bool
  pub fault : PduFault

abbrev pub row : Bool → PduFaultKind → ℕ → Test
row holds kind place = record { holds = holds; fault = record { kind = kind; place = place } }

-- the fault of the first test that fails
abbrev pub first_failing : List Test → Option PduFault
first_failing [] = None
first_failing (test ∷ tests) = if test.holds then first_failing tests else Some test.fault

-- the place of the faulty TLV's code
abbrev pub place_of_fault : TlvFault → ℕ
place_of_fault (Header place) = place
place_of_fault (Past place) = place

-- the place of the code of the first faulty TLV of octets that begin at a place
abbrev pub tlv_fault : ℕ → List ℕ → Option ℕ
tlv_fault place octets = option_map place_of_fault (fault_of (tlvs_of place octets))

-- the tests on the octets that every PDU begins with (ISO 10589 9; the order: own)
abbrev pub start_tests : List ℕ → List Test
start_tests octets =
    row (nat_le 8 (length octets)) Short (length octets)
    ∷ row (slice_index octets 0 == 131) Discriminator 0
    ∷ row (slice_index octets 2 == 1) Version 2
    ∷ row ((slice_index octets 3 == 0) || (slice_index octets 3 == 6)) IdLength 3
    ∷ row (is_some (kind_at octets)) PduType 4
    ∷ row (slice_index octets 5 == 1) Version 5
    ∷ row ((slice_index octets 7 == 0) || (slice_index octets 7 == 3)) MaxAreas 7
    ∷ []

-- the tests on the octets of a PDU of a type (ISO 10589 9; the order: own)
abbrev pub kind_tests : PduKind → List ℕ → List Test
kind_tests kind octets =
    let header = header_length kind in
    let n = length_at kind octets in
    let faulty = tlv_fault header (body_at kind octets n) in
    row (slice_index octets 1 == header) HeaderLength 1
    ∷ row (nat_le header (length octets)) Short (length octets)
    ∷ row (not (is_hello kind && (slice_index octets 8 % 4 == 0))) CircuitType 8
    ∷ row (nat_le header n && nat_le n (length octets)) PduLength (length_place kind)
    ∷ row (is_none faulty) Tlv (unwrap_or faulty 0)
    ∷ []

-- all of them in order; of an unknown type there are no more
abbrev pub tests_of : Option PduKind → List ℕ → List Test
tests_of None octets = start_tests octets
tests_of (Some kind) octets = start_tests octets ++ kind_tests kind octets

-- the fault of octets, None where a PDU stands at their start
unfoldable pub first_fault : List ℕ → Option PduFault
first_fault octets = first_failing (tests_of (kind_at octets) octets)
