-- A datagram: the octets ISU2, the sender's SNPA and its boot number, and a PDU (own).
use Rattle.std.specs.Prelude.{ℕ, nat_le, ◌&&◌, List, [], ◌∷◌, ◌++◌, length, take, drop, Result, Ok, Err, bytes_eq, if◌then◌else◌}
use Rattle.isis_base.specs.Fields.{u32_at, u32_octets}
use Rattle.model_router.specs.declared.drop_name.DropName.{DropName}
use Rattle.model_router.specs.declared.drop_name.DropName.TheVariants as drop
use Rattle.model_router.specs.Numbers.{u48_octets, u48_of}
use Rattle.model_router.specs.Events.{Envelope}

-- what every datagram begins with: the text ISU2 (own)
abbrev pub magic : List ℕ
magic = 73 ∷ 83 ∷ 85 ∷ 50 ∷ []

-- what a datagram of the first version began with: the text ISU1 (own)
abbrev pub first_magic : List ℕ
first_magic = 73 ∷ 83 ∷ 85 ∷ 49 ∷ []

-- the datagram of an SNPA, a boot number and a PDU (own)
unfoldable pub framed : ℕ → ℕ → List ℕ → List ℕ
framed snpa boot pdu = magic ++ u48_octets snpa ++ u32_octets boot ++ pdu

-- the envelope and the PDU of a datagram, or why it has no frame: it has that of the first version,
-- or none (own)
unfoldable pub unframed : List ℕ → Result (Envelope × List ℕ) DropName
unframed datagram =
    if bytes_eq (take 4 datagram) first_magic then Err drop.Version
    else (if nat_le 14 (length datagram) && bytes_eq (take 4 datagram) magic
    then Ok (record { snpa = u48_of (drop 4 datagram); boot = u32_at 10 datagram }, drop 14 datagram)
    else Err drop.Frame)
