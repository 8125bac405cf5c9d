-- The first value of a PDU's TLVs that must be read and doesn't fit (own).
use Rattle.std.specs.Prelude.{ℕ, ◌+◌, ◌==◌, List, find, Option, None, option_and_then, if◌then◌else◌}
use Rattle.std.specs.Option.{option_map, is_some}
use Rattle.std.specs.Result.{result_err}
use Rattle.isis_base.specs.declared.pdu_kind.PduKind.{PduKind}
use Rattle.isis_base.specs.declared.pdu_kind.PduKind.TheVariants as kind
use Rattle.isis_base.specs.PduKinds.{header_length}
use Rattle.isis_tlv.specs.declared.fault.ValueFault.{ValueFault}
use Rattle.isis_tlv.specs.Walks.{fault_of}
use Rattle.isis_tlv.specs.Tlvs.{TlvView, tlv_list}
use Rattle.isis_tlv.specs.Items.{areas_of, snpas_of, entries_of, three_way_of}

-- the fault of a TLV of a hello: areas, SNPAs and three-way values are read (ISO 10589 9.5, RFC
-- 5303 3.1)
abbrev pub hello_fault : TlvView → Option ValueFault
hello_fault tlv =
    if tlv.code == 1 then fault_of (areas_of tlv.value)
    else if tlv.code == 6 then fault_of (snpas_of tlv.value)
    else if tlv.code == 240 then result_err (three_way_of tlv.value)
    else None

-- the fault of a TLV of a sequence numbers PDU: entries are read (ISO 10589 9.10)
abbrev pub snp_fault : TlvView → Option ValueFault
snp_fault tlv = if tlv.code == 9 then fault_of (entries_of tlv.value) else None

-- the fault of a TLV in a PDU of a type; of an LSP nothing must be read (own)
abbrev pub value_fault : PduKind → TlvView → Option ValueFault
value_fault (kind.LanHello level) tlv = hello_fault tlv
value_fault kind.PointHello tlv = hello_fault tlv
value_fault (kind.Lsp level) tlv = None
value_fault (kind.Csnp level) tlv = snp_fault tlv
value_fault (kind.Psnp level) tlv = snp_fault tlv

-- the first TLV with a fault
abbrev pub faulty_tlv : PduKind → List ℕ → Option TlvView
faulty_tlv kind tlvs = find (λ tlv. is_some (value_fault kind tlv)) (tlv_list 0 tlvs)

-- the place of a TLV's fault in the PDU: where its value begins, and the fault's place in the
-- value (own)
abbrev pub place_in_pdu : PduKind → TlvView → Option ℕ
place_in_pdu kind tlv =
    option_map (λ fault. header_length kind + tlv.place + 2 + fault.place) (value_fault kind tlv)

-- the place of the first fault, where there is one (own)
unfoldable pub value_place : PduKind → List ℕ → Option ℕ
value_place kind tlvs = option_and_then (place_in_pdu kind) (faulty_tlv kind tlvs)
