-- What PDUs are shown as: a line for each, and a line or more for each of its TLVs (own).
use Rattle.std.specs.Prelude.{ℕ, ◌+◌, ◌==◌, ◌||◌, not, Bool, true, false, List, [], ◌∷◌, ◌++◌, length, take, drop, codes, decimal, Result, Ok, Err, if◌then◌else◌}
use Rattle.std.specs.List.{flat_map}
use Rattle.hex.specs.declared.error.FromHexError.{FromHexError}
use Rattle.hex.specs.declared.error.FromHexError.TheVariants.{InvalidHexCharacter, OddLength, InvalidStringLength, OutOfMemory}
use Rattle.hex.specs.Hex.{decode_of}
use Rattle.isis_base.specs.declared.identifiers.SystemId.{SystemId}
use Rattle.isis_base.specs.declared.level.Level.{Level}
use Rattle.isis_base.specs.declared.level.Level.TheVariants as level
use Rattle.isis_base.specs.declared.level.LevelSet.{LevelSet}
use Rattle.isis_base.specs.Levels.{levels_text}
use Rattle.isis_base.specs.Texts.{hex_pair, system_text, node_text, lsp_text}
use Rattle.iso_checksum.specs.Checksum.{checksum_holds}
use Rattle.isis_base.specs.Fields.{u16_octets}
use Rattle.isis_tlv.specs.Tlvs.{TlvView, tlv_list}
use Rattle.isis_pdu.specs.declared.fault.PduFault.{PduFault}
use Rattle.isis_pdu.specs.declared.fault.PduFaultKind.{PduFaultKind}
use Rattle.isis_pdu.specs.declared.fault.PduFaultKind.TheVariants.{Short, Discriminator, Version, IdLength, PduType, MaxAreas, HeaderLength, CircuitType, PduLength, Tlv}
use Rattle.isis_pdu.specs.Decoded.{decoded}
use Rattle.isis_pdu.specs.Layout.{kind_of}
use Rattle.isis_base.specs.PduKinds.{header_length}
use Rattle.isis_pdu.specs.Views.{PduView, LanHello, PointHello, Lsp, Csnp, Psnp, tlvs_of_pdu}
use Rattle.value_text.specs.ValueLines.{value_lines}
use Rattle.line_cuts.specs.Words.{lines_of}

-- one of two words, by the level
abbrev pub by_level : Level → List ℕ → List ℕ → List ℕ
by_level level.One one two = one
by_level level.Two one two = two

-- the word of a PDU's type (own)
abbrev pub type_word : PduView → List ℕ
type_word (LanHello level circuit_type source holding priority lan tlvs) =
    by_level level (codes "l1-lan-hello") (codes "l2-lan-hello")
type_word (PointHello circuit_type source holding circuit tlvs) = codes "p2p-hello"
type_word (Lsp level lifetime id number checksum flags tlvs) =
    by_level level (codes "l1-lsp") (codes "l2-lsp")
type_word (Csnp level source start end tlvs) = by_level level (codes "l1-csnp") (codes "l2-csnp")
type_word (Psnp level source tlvs) = by_level level (codes "l1-psnp") (codes "l2-psnp")

-- what an LSP's checksum comes to: a purge has none to look at, and a field of 0 is none (own). It covers the octets
-- from the LSP ID, at 12, to the PDU's end (ISO 10589 7.3.11)
unfoldable pub checksum_word : ℕ → ℕ → List ℕ → List ℕ
checksum_word lifetime checksum octets =
    if lifetime == 0 then codes "purge"
    else if (checksum == 0) || not (checksum_holds (drop 12 octets)) then codes "bad"
    else codes "good"

-- the fields that both kinds of hellos have
abbrev pub hello_text : LevelSet → SystemId → ℕ → List ℕ
hello_text circuit_type source holding =
    codes " circuit " ++ levels_text circuit_type ++ codes " source " ++ system_text source
    ++ codes " holding " ++ decimal holding

-- two octets in hex
unfoldable pub hex_field : ℕ → List ℕ
hex_field number = flat_map hex_pair (u16_octets number)

-- the last fields of an LSP
abbrev pub checksum_text : ℕ → ℕ → ℕ → List ℕ → List ℕ
checksum_text lifetime checksum flags octets =
    codes " checksum " ++ hex_field checksum ++ codes " " ++ checksum_word lifetime checksum octets
    ++ codes " flags " ++ hex_pair flags

-- the fields of a PDU whose octets these are, from the first to the PDU length (own)
abbrev pub fields_text : PduView → List ℕ → List ℕ
fields_text (LanHello level circuit_type source holding priority lan tlvs) octets =
    hello_text circuit_type source holding ++ codes " priority " ++ decimal priority
    ++ codes " lan " ++ node_text lan
fields_text (PointHello circuit_type source holding circuit tlvs) octets =
    hello_text circuit_type source holding ++ codes " id " ++ decimal circuit
fields_text (Lsp level lifetime id number checksum flags tlvs) octets =
    codes " lifetime " ++ decimal lifetime ++ codes " id " ++ lsp_text id ++ codes " number "
    ++ decimal number
    ++ checksum_text lifetime checksum flags octets
fields_text (Csnp level source start end tlvs) octets =
    codes " source " ++ node_text source ++ codes " start " ++ lsp_text start ++ codes " end "
    ++ lsp_text end
fields_text (Psnp level source tlvs) octets = codes " source " ++ node_text source

-- the first words of each line of a PDU, and of a fault
abbrev pub start_text : ℕ → List ℕ
start_text number = codes "pdu " ++ decimal number ++ codes " "

-- `tlv CODE at PLACE length L`, and LF; the place is that of the code, counted from the PDU's first octet (own)
abbrev pub tlv_line : TlvView → List ℕ
tlv_line tlv =
    codes "tlv " ++ decimal tlv.code ++ codes " at " ++ decimal tlv.place ++ codes " length "
    ++ decimal (length tlv.value) ++ 10 ∷ []

-- the lines of a TLV: that one, and in a long text what its value says
abbrev pub tlv_lines : (long : Bool) → TlvView → List ℕ
tlv_lines false tlv = tlv_line tlv
tlv_lines true tlv = tlv_line tlv ++ value_lines tlv.code tlv.value

-- the TLVs of a PDU, with their places in it
abbrev pub shown_tlvs : PduView → List TlvView
shown_tlvs pdu = tlv_list (header_length (kind_of pdu)) (tlvs_of_pdu pdu)

-- the first line of a PDU up to the count of its TLVs
unfoldable pub head_text : ℕ → PduView → List ℕ → List ℕ
head_text number pdu octets =
    start_text number ++ type_word pdu ++ codes " length " ++ decimal (length octets)
    ++ fields_text pdu octets

-- the lines of a PDU whose octets these are: its fields and the count of its TLVs, then those of each TLV (own)
abbrev pub pdu_lines : (long : Bool) → ℕ → PduView → List ℕ → List ℕ
pdu_lines long number pdu octets =
    head_text number pdu octets ++ codes " tlvs " ++ decimal (length (shown_tlvs pdu)) ++ 10 ∷ []
    ++ flat_map (tlv_lines long) (shown_tlvs pdu)

-- the word of a fault of octets
abbrev pub kind_word : PduFaultKind → List ℕ
kind_word Short = codes "Short"
kind_word Discriminator = codes "Discriminator"
kind_word Version = codes "Version"
kind_word IdLength = codes "IdLength"
kind_word PduType = codes "PduType"
kind_word MaxAreas = codes "MaxAreas"
kind_word HeaderLength = codes "HeaderLength"
kind_word CircuitType = codes "CircuitType"
kind_word PduLength = codes "PduLength"
kind_word Tlv = codes "Tlv"

-- `pdu N fault KIND PLACE`, and LF (own)
abbrev pub fault_line : ℕ → List ℕ → ℕ → List ℕ
fault_line number kind place =
    start_text number ++ codes "fault " ++ kind ++ codes " " ++ decimal place ++ 10 ∷ []

-- what octets are shown as: the PDU they begin with, or its fault; octets past the PDU length aren't looked at
abbrev pub octets_lines : (long : Bool) → ℕ → List ℕ → Result (PduView × ℕ) PduFault → List ℕ
octets_lines long number octets (Ok found) = pdu_lines long number found.0 (take found.1 octets)
octets_lines long number octets (Err fault) = fault_line number (kind_word fault.kind) fault.place

-- where a text of so many octets isn't hex: its length where that is odd, else its first octet that is no digit; the
-- last two don't come of reading (own)
abbrev pub misfit_place : ℕ → FromHexError → ℕ
misfit_place size OddLength = size
misfit_place size (InvalidHexCharacter digit place) = place
misfit_place size InvalidStringLength = size
misfit_place size OutOfMemory = size

abbrev pub hex_lines : (long : Bool) → ℕ → List ℕ → Result (List ℕ) FromHexError → List ℕ
hex_lines long number line (Ok octets) = octets_lines long number octets (decoded octets)
hex_lines long number line (Err error) =
    fault_line number (codes "Hex") (misfit_place (length line) error)

-- what a line of the input is shown as: nothing where it is empty, else the PDU of its hex text (own)
unfoldable pub shown_line : (long : Bool) → ℕ → List ℕ → List ℕ
shown_line long number line = if length line == 0 then [] else hex_lines long number line (decode_of line)

-- the same of lines, the first of which has this number
unfoldable pub shown_lines : (long : Bool) → ℕ → List (List ℕ) → List ℕ
shown_lines long number [] = []
shown_lines long number (line ∷ lines) = shown_line long number line ++ shown_lines long (number + 1) lines

-- what an input is shown as, in a long text or not (own)
abbrev pub shown_text : (long : Bool) → List ℕ → List ℕ
shown_text long input = shown_lines long 1 (lines_of input)
