-- A datagram of a circuit over UDP: the text ISU2, the sender's SNPA, its boot number and a PDU (own).
use Rattle.std.specs.Prelude.{ℕ, nat_lt, List, ◌++◌, length, take, drop, bytes_eq, codes, Result, Ok, Err, if◌then◌else◌}
use Rattle.std.specs.Borrow.{Bor}
use Rattle.isis_base.specs.declared.identifiers.Snpa.{Snpa}
use Rattle.isis_base.specs.Fields.{u32_at, u32_octets}
use Rattle.isis_pdu.specs.declared.frame.FrameFault.{FrameFault}
use Rattle.isis_pdu.specs.declared.frame.FrameFault.TheVariants.{Version, Short, Magic}

-- the datagram of a sender's SNPA and boot number, and a PDU (own)
unfoldable pub framed : Snpa → ℕ → List ℕ → List ℕ
framed snpa boot pdu = codes "ISU2" ++ snpa.0 ++ u32_octets boot ++ pdu

-- the sender's SNPA, its boot number and the PDU of a datagram, or why it has no frame (own)
unfoldable pub unframed : List ℕ → Result (Snpa × ℕ × List ℕ) FrameFault
unframed datagram =
    if bytes_eq (take 4 datagram) (codes "ISU1") then Err Version
    else if nat_lt (length datagram) 14 then Err Short
    else if bytes_eq (take 4 datagram) (codes "ISU2")
    then Ok (record { 0 = take 6 (drop 4 datagram) }, u32_at 10 datagram, drop 14 datagram)
    else Err Magic

-- what a lent PDU is the octets of (own)
abbrev pub frame_view : Result (Snpa × ℕ × Bor (List ℕ)) FrameFault
    → Result (Snpa × ℕ × List ℕ) FrameFault
frame_view (Ok found) = Ok (found.0, found.1, found.2.now)
frame_view (Err fault) = Err fault
