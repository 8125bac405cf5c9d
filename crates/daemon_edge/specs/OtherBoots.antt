-- Point-to-point hellos that name another boot number than their frame (own).
use Rattle.std.specs.Prelude.{ℕ, ◌==◌, ◌/◌, ◌&&◌, not, Bool, false, List, Option, Some, None, Result, Ok, Err}
use Rattle.std.specs.List.{list_any}
use Rattle.isis_base.specs.declared.identifiers.Snpa.{Snpa}
use Rattle.isis_tlv.specs.declared.fault.ValueFault.{ValueFault}
use Rattle.isis_tlv.specs.declared.three_way.ThreeWay.{ThreeWay}
use Rattle.isis_tlv.specs.Tlvs.{TlvView, tlv_list}
use Rattle.isis_tlv.specs.Items.{three_way_of}
use Rattle.isis_pdu.specs.declared.fault.PduFault.{PduFault}
use Rattle.isis_pdu.specs.declared.frame.FrameFault.{FrameFault}
use Rattle.isis_pdu.specs.Views.{PduView, LanHello, PointHello, Lsp, Csnp, Psnp}
use Rattle.isis_pdu.specs.Decoded.{decoded}
use Rattle.isis_pdu.specs.Frames.{unframed}

-- an extended circuit ID is 256 times its router's boot number and the circuit's number (own)
abbrev pub is_other : ℕ → Option ℕ → Bool
is_other boot None = false
is_other boot (Some id) = not (id / 256 == boot)

-- what a three-way value has of it (RFC 5303 3)
abbrev pub says_other : ℕ → Result ThreeWay ValueFault → Bool
says_other boot (Ok way) = is_other boot way.own_id
says_other boot (Err fault) = false

-- own
abbrev pub names_other : ℕ → TlvView → Bool
names_other boot tlv = tlv.code == 240 && says_other boot (three_way_of tlv.value)

-- own
abbrev pub is_other_hello : ℕ → PduView → Bool
is_other_hello boot (PointHello circuit_type source holding circuit tlvs) =
    list_any (names_other boot) (tlv_list 0 tlvs)
is_other_hello boot (LanHello level circuit_type source holding priority lan tlvs) = false
is_other_hello boot (Lsp level lifetime id number checksum flags tlvs) = false
is_other_hello boot (Csnp level source start end tlvs) = false
is_other_hello boot (Psnp level source tlvs) = false

-- own
abbrev pub is_other_pdu : ℕ → Result (PduView × ℕ) PduFault → Bool
is_other_pdu boot (Ok found) = is_other_hello boot found.0
is_other_pdu boot (Err fault) = false

-- own
abbrev pub is_other_frame : Result (Snpa × ℕ × List ℕ) FrameFault → Bool
is_other_frame (Ok frame) = is_other_pdu frame.1 (decoded frame.2)
is_other_frame (Err fault) = false

-- a datagram is a point-to-point hello that names another boot number than its frame (own)
abbrev pub is_of_other_boot : List ℕ → Bool
is_of_other_boot datagram = is_other_frame (unframed datagram)
