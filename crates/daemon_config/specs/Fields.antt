-- What the texts of a configuration say: a reader for each kind, from a text to its value (own).
use Rattle.std.specs.Prelude.{ℕ, ◌==◌, ◌&&◌, not, nat_le, Bool, true, false, List, [], ◌∷◌, length, Option, Some, None, codes, option_and_then, if◌then◌else◌}
use Rattle.std.specs.Char.{is_ascii_digit}
use Rattle.std.specs.Int.{from_be_bytes, w32}
use Rattle.std.specs.List.{list_all, slice_split}
use Rattle.std.specs.Option.{option_map}
use Rattle.std.specs.Result.{result_ok}
use Rattle.std.specs.Str.{bytes_eq}
use Rattle.std.specs.Str.Parse.{digits_value}
use Rattle.hex.specs.Hex.{decode_of}
use Rattle.isis_base.specs.declared.identifiers.SystemId.{SystemId}
use Rattle.isis_base.specs.declared.level.CircuitKind.{CircuitKind}
use Rattle.isis_base.specs.declared.level.CircuitKind.TheVariants.{PointToPoint, Lan}
use Rattle.isis_base.specs.declared.prefix.Prefix.{Prefix}
use Rattle.isis_base.specs.declared.texts.TheConstants.{SYSTEM_TEXT}
use Rattle.isis_base.specs.Identifiers.{system_from}
use Rattle.isis_base.specs.Misfit.{text_octets}
use Rattle.isis_base.specs.PrefixFronts.{prefix_parts}
use Rattle.isis_base.specs.Prefixes.{prefix_from}
use Rattle.daemon_edge.specs.declared.place.Address.{Address}

-- the system ID of a text, as 0000.0000.0001
unfoldable pub system_of : List ℕ → Option SystemId
system_of text = option_map system_from (text_octets SYSTEM_TEXT text)

-- the prefix of a text, as 10.0.1.0/24
unfoldable pub prefix_of : List ℕ → Option Prefix
prefix_of text = option_and_then (λ parts. prefix_from parts.0 parts.1) (prefix_parts text)

-- the kind of a circuit
unfoldable pub circuit_kind_of : List ℕ → Option CircuitKind
circuit_kind_of text =
    if bytes_eq text (codes "p2p") then Some PointToPoint
    else if bytes_eq text (codes "lan") then Some Lan
    else None

-- ---- numbers and addresses

-- a second value, where there is a first
infixl 10 ◌>>=◌
abbrev pub ◌>>=◌ : {A B : Type 0} → Option A → (A → Option B) → Option B
None >>= next = None
Some x >>= next = next x

-- there is something, and no 0 before another digit
abbrev pub has_plain_lead : List ℕ → Bool
has_plain_lead [] = false
has_plain_lead (first ∷ []) = true
has_plain_lead (first ∷ second ∷ rest) = not (first == 48)

-- the number of a text of decimal digits without leading zeros
abbrev pub numeral_of : List ℕ → Option ℕ
numeral_of text =
    if has_plain_lead text && list_all is_ascii_digit text
    then Some (digits_value 10 text) else None

-- a number within two bounds
abbrev pub bounded : ℕ → ℕ → ℕ → Option ℕ
bounded least most n = if nat_le least n && nat_le n most then Some n else None

-- the number of a text, within two bounds
unfoldable pub number_within : ℕ → ℕ → List ℕ → Option ℕ
number_within least most text = option_and_then (bounded least most) (numeral_of text)

-- the parts of a text at a mark
unfoldable pub parts_at : ℕ → List ℕ → List (List ℕ)
parts_at mark text = slice_split (λ byte. byte == mark) text

-- an octet of a host, and a UDP port (RFC 768)
abbrev pub octet_of : List ℕ → Option ℕ
octet_of text = number_within 0 255 text

abbrev pub port_of : List ℕ → Option ℕ
port_of text = number_within 1 65535 text

-- the IPv4 address of four octets, the first one the greatest
unfoldable pub host_number : List ℕ → ℕ
host_number octets = from_be_bytes w32 octets

-- the IPv4 address of four texts of octets
abbrev pub host_from : List (List ℕ) → Option ℕ
host_from (a ∷ b ∷ c ∷ d ∷ []) = do
  a ← octet_of a
  b ← octet_of b
  c ← octet_of c
  d ← octet_of d
  Some (host_number (a ∷ b ∷ c ∷ d ∷ []))
host_from parts = None

-- the IPv4 address of a text, as 10.0.0.1: four octets with dots (46) between
unfoldable pub host_of : List ℕ → Option ℕ
host_of text = host_from (parts_at 46 text)

-- the address of two texts, of a host and a port
abbrev pub address_from : List (List ℕ) → Option Address
address_from (host ∷ port ∷ []) = do
  host ← host_of host
  port ← port_of port
  Some (record { host = host; port = port })
address_from parts = None

-- the address of a text, as 10.0.0.1:7001: a host and a port with a colon (58) between
unfoldable pub address_of : List ℕ → Option Address
address_of text = address_from (parts_at 58 text)

-- ---- keys

-- 1 to 128 octets
abbrev pub key_within : List ℕ → Option (List ℕ)
key_within octets =
    if nat_le 1 (length octets) && nat_le (length octets) 128 then Some octets else None

-- the octets of a key in hex digits, in upper or lower case
unfoldable pub key_of : List ℕ → Option (List ℕ)
key_of text = option_and_then key_within (result_ok (decode_of text))
