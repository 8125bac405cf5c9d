-- The checksum of octets: a sum and a weighted sum modulo 255 (ISO 8473 6.11).
use Rattle.std.specs.Prelude.{ℕ, ◌+◌, ◌*◌, ◌%◌, ◌≤◌, ◌==◌, ◌&&◌, Bool, IsTrue, List, [], ◌∷◌, ◌++◌, length, take, drop}

-- the sum of the octets (ISO 8473 6.11)
abbrev pub octet_sum : List ℕ → ℕ
octet_sum [] = 0
octet_sum (x ∷ xs) = x + octet_sum xs

-- the sum of the octets, each times how many there are from it to the end (ISO 8473 6.11)
abbrev pub weighted_sum : List ℕ → ℕ
weighted_sum [] = 0
weighted_sum (x ∷ xs) = length (x ∷ xs) * x + weighted_sum xs

-- both sums are 0 modulo 255 (ISO 8473 6.11, ISO 10589 7.3.11)
unfoldable pub checksum_holds : List ℕ → Bool
checksum_holds octets = (octet_sum octets % 255 == 0) && (weighted_sum octets % 255 == 0)

abbrev pub Holds : List ℕ → Type 0
Holds octets = IsTrue (checksum_holds octets)

-- the octets with these two in the place of the two from `place` on (own)
abbrev pub with_pair : List ℕ → ℕ → ℕ → ℕ → List ℕ
with_pair octets place first second = take place octets ++ first ∷ second ∷ drop (place + 2) octets

-- a check octet as it is written: 255 stands where 0 would do as well (own)
abbrev pub IsCheckOctet : ℕ → Type 0
IsCheckOctet octet = (1 ≤ octet) × (octet ≤ 255)
