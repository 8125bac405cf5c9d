-- Octets in hex digits (own).
use Rattle.std.specs.Prelude.{◌≡◌, ℕ, ◌+◌, ◌*◌, ◌%◌, ◌<◌, ◌==◌, ◌&&◌, nat_lt, Bool, true, List, [], ◌∷◌, length, flat_map, Option, Some, None, if◌then◌else◌}
use Rattle.std.specs.Char.{digit_value, is_ascii_hexdigit}
use Rattle.std.specs.List.{AllByRecursion, list_all}
use Rattle.isis_base.specs.Texts.{hex_pair}

-- the octets of pairs of hex digits
unfoldable pub octets_in : List ℕ → List ℕ
octets_in [] = []
octets_in (high ∷ []) = []
octets_in (high ∷ low ∷ digits) = (16 * digit_value high + digit_value low) ∷ octets_in digits

abbrev pub AreDigits : List ℕ → Type 0
AreDigits digits = list_all is_ascii_hexdigit digits ≡ true

-- octets in hex digits, in upper or lower case; none too (own)
abbrev pub is_octets : List ℕ → Bool
is_octets word = length word % 2 == 0 && list_all is_ascii_hexdigit word

-- the octets that a word writes; none too
abbrev pub octets_of : List ℕ → Option (List ℕ)
octets_of word = if is_octets word then Some (octets_in word) else None

-- one octet or more in hex digits, in upper or lower case (own)
abbrev pub is_hex : List ℕ → Bool
is_hex word = nat_lt 0 (length word) && length word % 2 == 0 && list_all is_ascii_hexdigit word

-- the octets that a word writes, one or more (own)
abbrev pub hex_of : List ℕ → Option (List ℕ)
hex_of word = if is_hex word then Some (octets_in word) else None

-- ---- as they are written

abbrev pub AreOctets : List ℕ → Type 0
AreOctets octets = AllByRecursion (λ octet. octet < 256) octets

-- each octet as two lower-case hex digits (own)
abbrev pub hex_text : List ℕ → List ℕ
hex_text octets = flat_map hex_pair octets
