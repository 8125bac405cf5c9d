-- The texts of prefixes (own).
use Rattle.std.specs.Prelude.{◌≡◌, ℕ, ◌-◌, ◌%◌, ◌^◌, ◌<◌, ◌≤◌, List, ◌++◌, map, codes, decimal}
use Rattle.std.specs.Int.{to_be_bytes, w32}
use Rattle.std.specs.List.{join_with_byte}

-- an address's text: its four octets with dots between, as 10.0.1.0 (own)
abbrev pub address_text : ℕ → List ℕ
address_text address = join_with_byte 46 (map decimal (to_be_bytes w32 address))

-- the text of a prefix of this address and length, as 10.0.1.0/24 (own)
abbrev pub prefix_text : ℕ → ℕ → List ℕ
prefix_text address length = address_text address ++ codes "/" ++ decimal length

-- the text spells the prefix of this address and length; bits past the length are 0 (own)
pub record SpellsPrefix (text : List ℕ) (address length : ℕ) : Type 0 where
  pub small : address < 2 ^ 32
  pub fits : length ≤ 32
  pub clear : address % 2 ^ (32 - length) ≡ 0
  pub same : text ≡ prefix_text address length

-- the text is that of a prefix
abbrev pub IsPrefixText : List ℕ → Type 0
IsPrefixText text = (address : ℕ) × (length : ℕ) × SpellsPrefix text address length
