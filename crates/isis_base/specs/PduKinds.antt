-- The nine types of PDUs: their numbers, the lengths of their headers and the places of their
-- PDU lengths (ISO 10589 9).
use Rattle.std.specs.Prelude.{ℕ, ◌%◌, ◌==◌, Bool, true, false, List, [], ◌∷◌, find, slice_index, Option, if◌then◌else◌}
use Rattle.isis_base.specs.declared.level.Level.TheVariants as level
use Rattle.isis_base.specs.declared.pdu_kind.PduKind.{PduKind}
use Rattle.isis_base.specs.declared.pdu_kind.PduKind.TheVariants as kind

-- the number of each type (ISO 10589 9)
abbrev pub type_number : PduKind → ℕ
type_number (kind.LanHello level.One) = 15
type_number (kind.LanHello level.Two) = 16
type_number kind.PointHello = 17
type_number (kind.Lsp level.One) = 18
type_number (kind.Lsp level.Two) = 20
type_number (kind.Csnp level.One) = 24
type_number (kind.Csnp level.Two) = 25
type_number (kind.Psnp level.One) = 26
type_number (kind.Psnp level.Two) = 27

-- the nine types
abbrev pub kinds : List PduKind
kinds =
    kind.LanHello level.One ∷ kind.LanHello level.Two ∷ kind.PointHello
    ∷ kind.Lsp level.One ∷ kind.Lsp level.Two ∷ kind.Csnp level.One ∷ kind.Csnp level.Two
    ∷ kind.Psnp level.One ∷ kind.Psnp level.Two ∷ []

-- the type of a number (ISO 10589 9)
unfoldable pub kind_of_number : ℕ → Option PduKind
kind_of_number number = find (λ kind. type_number kind == number) kinds

-- the type that octets say: the low five bits of the one at 4 (ISO 10589 9)
abbrev pub kind_at : List ℕ → Option PduKind
kind_at octets = kind_of_number (slice_index octets 4 % 32)

-- how many octets the header has (ISO 10589 9)
abbrev pub header_length : PduKind → ℕ
header_length (kind.LanHello level) = 27
header_length kind.PointHello = 20
header_length (kind.Lsp level) = 27
header_length (kind.Csnp level) = 33
header_length (kind.Psnp level) = 17

-- whether PDUs of a type are hellos (ISO 10589 9.5 to 9.7)
abbrev pub is_hello : PduKind → Bool
is_hello (kind.LanHello level) = true
is_hello kind.PointHello = true
is_hello (kind.Lsp level) = false
is_hello (kind.Csnp level) = false
is_hello (kind.Psnp level) = false

-- where the PDU length stands (ISO 10589 9)
abbrev pub length_place : PduKind → ℕ
length_place kind = if is_hello kind then 17 else 8
