-- The texts of IPv6 prefixes (RFC 4291 2.2, 2.3; without `::`: own).

use Rattle.std.specs.Prelude.{ℕ, false, ◌/◌, ◌%◌, ◌^◌, List, [], ◌∷◌, ◌++◌, codes, decimal, map}
use Rattle.std.specs.Fmt.{digits}
use Rattle.std.specs.List.{join_with_byte}

-- the group of sixteen bits of an address above so many bits
abbrev pub group_of : ℕ → ℕ → ℕ
group_of address bits = address / 2 ^ bits % 65536

-- four groups in lower-case hex, without leading zeros, with colons between
abbrev pub four_text : ℕ → ℕ → ℕ → ℕ → List ℕ
four_text a b c d = join_with_byte 58 (map (digits 16 false) (a ∷ b ∷ c ∷ d ∷ []))

-- the text of an address: its eight groups, as 2001:db8:0:0:0:0:0:1
abbrev pub address6_text : ℕ → List ℕ
address6_text address =
    four_text (group_of address 112) (group_of address 96) (group_of address 80) (group_of address 64) ++ codes ":"
    ++ four_text (group_of address 48) (group_of address 32) (group_of address 16) (group_of address 0)

-- the text of a prefix of this address and length, as 2001:db8:0:0:0:0:0:0/32
abbrev pub prefix6_text : ℕ → ℕ → List ℕ
prefix6_text address length = address6_text address ++ codes "/" ++ decimal length
