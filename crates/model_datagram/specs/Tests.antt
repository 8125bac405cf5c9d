-- The tests of a PDU's octets that need no state, in their order, each with the cause of a drop
-- where it fails (own: the order).
use Rattle.std.specs.Prelude.{ℕ, ◌==◌, nat_le, Bool, true, ◌&&◌, ◌||◌, not, List, [], ◌∷◌, length, drop, Option, Some, None, is_none, if◌then◌else◌}
use Rattle.isis_base.specs.declared.pdu_kind.PduKind.{PduKind}
use Rattle.isis_base.specs.declared.pdu_kind.PduKind.TheVariants as kind
use Rattle.isis_base.specs.PduKinds.{header_length, is_hello}
use Rattle.iso_checksum.specs.Checksum.{checksum_holds}
use Rattle.isis_tlv.specs.Walks.{fault_of}
use Rattle.isis_pdu.specs.Views.{PduView, LanHello, PointHello, Lsp, Csnp, Psnp, tlvs_of_pdu}
use Rattle.isis_pdu.specs.Layout.{kind_of}
use Rattle.hmac_auth.specs.Auth.{auth_fault}
use Rattle.model_router.specs.declared.drop_name.DropName.{DropName}
use Rattle.model_router.specs.declared.drop_name.DropName.TheVariants as drop
use Rattle.model_router.specs.Both.{at}
use Rattle.model_router.specs.Configs.{Config}
use Rattle.model_router.specs.Routers.{Circuit}
use Rattle.model_datagram.specs.Values.{areas_in, snpas_in, entries_in, handshakes_in}

-- a test, and the cause where it fails (own)
pub record Test : Type 0 where
  pub holds : Bool
  pub cause : DropName

-- own
abbrev pub row : Bool → DropName → Test
row holds cause = record { holds = holds; cause = cause }

-- the cause of the first test that fails (own)
abbrev pub first_failing : List Test → Option DropName
first_failing [] = None
first_failing (test ∷ tests) = if test.holds then first_failing tests else Some test.cause

-- ---- the tests

-- a hello of the circuit's kind; LSPs and SNPs go on both kinds (ISO 10589 8.2, 8.4)
abbrev pub goes_on : Circuit → PduKind → Bool
goes_on c (kind.LanHello level) = c.lan
goes_on c kind.PointHello = not c.lan
goes_on c (kind.Lsp level) = true
goes_on c (kind.Csnp level) = true
goes_on c (kind.Psnp level) = true

-- a level that is run; a point-to-point hello is of no level (own)
abbrev pub is_run : Config → PduKind → Bool
is_run config (kind.LanHello level) = at config.runs level
is_run config kind.PointHello = true
is_run config (kind.Lsp level) = at config.runs level
is_run config (kind.Csnp level) = at config.runs level
is_run config (kind.Psnp level) = at config.runs level

-- the key of a PDU: a hello's is the circuit's, else the level's (RFC 5304 3)
abbrev pub key_for : Config → Circuit → PduKind → Option (List ℕ)
key_for config c (kind.LanHello level) = c.key
key_for config c kind.PointHello = c.key
key_for config c (kind.Lsp level) = at config.keys level
key_for config c (kind.Csnp level) = at config.keys level
key_for config c (kind.Psnp level) = at config.keys level

-- the PDU is authentic where there is a key (RFC 5304 3)
abbrev pub passes : Option (List ℕ) → List ℕ → ℕ → Bool
passes None octets header = true
passes (Some key) octets header = is_none (auth_fault key octets header)

-- no value that must be read has a fault: areas, SNPAs and three-way values of a hello, entries of
-- an SNP (own)
abbrev pub are_read : PduKind → List ℕ → Bool
are_read (kind.LanHello level) tlvs =
    is_none (fault_of (areas_in tlvs)) && is_none (fault_of (snpas_in tlvs))
    && is_none (fault_of (handshakes_in tlvs))
are_read kind.PointHello tlvs =
    is_none (fault_of (areas_in tlvs)) && is_none (fault_of (snpas_in tlvs))
    && is_none (fault_of (handshakes_in tlvs))
are_read (kind.Lsp level) tlvs = true
are_read (kind.Csnp level) tlvs = is_none (fault_of (entries_in tlvs))
are_read (kind.Psnp level) tlvs = is_none (fault_of (entries_in tlvs))

-- an LSP has a number (ISO 10589 7.3.16.1)
abbrev pub has_number : PduView → Bool
has_number (LanHello level circuit_type source holding priority lan tlvs) = true
has_number (PointHello circuit_type source holding circuit tlvs) = true
has_number (Lsp level lifetime id number checksum flags tlvs) = not (number == 0)
has_number (Csnp level source start end tlvs) = true
has_number (Psnp level source tlvs) = true

-- the checksum of an LSP that is no purge is there and holds, from the LSP ID to the end (ISO 10589
-- 7.3.11, 7.3.15.1)
abbrev pub is_summed : PduView → List ℕ → Bool
is_summed (LanHello level circuit_type source holding priority lan tlvs) octets = true
is_summed (PointHello circuit_type source holding circuit tlvs) octets = true
is_summed (Lsp level lifetime id number checksum flags tlvs) octets =
    (lifetime == 0) || (not (checksum == 0) && checksum_holds (drop 12 octets))
is_summed (Csnp level source start end tlvs) octets = true
is_summed (Psnp level source tlvs) octets = true

-- the tests of a PDU whose octets are these (own)
abbrev pub tests_of : Config → Circuit → PduView → List ℕ → List Test
tests_of config c pdu octets =
    let kind = kind_of pdu in
    row (is_hello kind || nat_le (length octets) 1492) drop.TooLong
    ∷ row (goes_on c kind) drop.WrongKind
    ∷ row (is_run config kind) drop.WrongLevel
    ∷ row (passes (key_for config c kind) octets (header_length kind)) drop.Auth
    ∷ row (are_read kind (tlvs_of_pdu pdu)) drop.Value
    ∷ row (has_number pdu) drop.ZeroNumber
    ∷ row (is_summed pdu octets) drop.BadChecksum
    ∷ []
