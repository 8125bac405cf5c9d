-- Datagrams that lie one behind another (own).
use Rattle.std.specs.Prelude.{ℕ, ◌+◌, nat_lt, nat_le, ◌&&◌, Bool, List, [], ◌∷◌, length, take, drop}

-- datagrams, and how many and of together how many octets there may be (own)
pub record KeptList : Type 0 where
  pub datagrams : List (List ℕ)
  pub room : ℕ

-- no datagram, and room for so many (own)
abbrev pub empty_of : ℕ → KeptList
empty_of room = record { datagrams = []; room = room }

-- own
abbrev pub sum_of : List ℕ → ℕ
sum_of [] = 0
sum_of (n ∷ numbers) = n + sum_of numbers

-- how long datagrams are together (own)
abbrev pub octets_in : List (List ℕ) → ℕ
octets_in [] = 0
octets_in (d ∷ datagrams) = length d + octets_in datagrams

-- octets in parts of these lengths (own)
abbrev pub parts : List ℕ → List ℕ → List (List ℕ)
parts [] octets = []
parts (n ∷ lengths) octets = take n octets ∷ parts lengths (drop n octets)

-- there is room for a datagram more (own)
abbrev pub has_room : KeptList → List ℕ → Bool
has_room kept datagram = nat_lt (length kept.datagrams) kept.room
    && nat_le (octets_in kept.datagrams + length datagram) kept.room
