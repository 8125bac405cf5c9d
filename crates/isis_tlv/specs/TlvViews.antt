-- TLVs and faults without where they lie in memory.
use Rattle.std.specs.Prelude.{ℕ, ◌+◌, length, Result, Ok, Err}
use Rattle.isis_tlv.specs.declared.tlv.Tlv.{Tlv}
use Rattle.isis_tlv.specs.declared.tlv.TlvFault.{TlvFault}
use Rattle.isis_tlv.specs.Tlvs.{TlvView}

-- a TLV without where its value lies in memory (own)
abbrev pub one_view : Tlv → TlvView
one_view tlv = record { code = tlv.code; place = tlv.place; value = tlv.value.now }

-- the same of a TLV or a fault (own)
abbrev pub tlv_view : Result Tlv TlvFault → Result TlvView TlvFault
tlv_view (Ok tlv) = Ok (one_view tlv)
tlv_view (Err fault) = Err fault

-- the same with the number of the TLV's octets (own)
abbrev pub found_view : Result Tlv TlvFault → Result (TlvView × ℕ) TlvFault
found_view (Ok tlv) = Ok (one_view tlv, 2 + length tlv.value.now)
found_view (Err fault) = Err fault
