-- Fields of octets at a place: numbers, the first octet the greatest, and identifiers (ISO 10589 9).
use Rattle.std.specs.Prelude.{ℕ, ◌+◌, ◌*◌, ◌/◌, ◌%◌, List, [], ◌∷◌, take, drop, slice_index}
use Rattle.isis_base.specs.declared.identifiers.SystemId.{SystemId}
use Rattle.isis_base.specs.declared.identifiers.NodeId.{NodeId}
use Rattle.isis_base.specs.declared.identifiers.LspId.{LspId}

-- the number of two, three and four octets that begin at a place (ISO 10589 9)
abbrev pub u16_at : ℕ → List ℕ → ℕ
u16_at place octets = 256 * slice_index octets place + slice_index octets (place + 1)

abbrev pub u24_at : ℕ → List ℕ → ℕ
u24_at place octets = 256 * u16_at place octets + slice_index octets (place + 2)

abbrev pub u32_at : ℕ → List ℕ → ℕ
u32_at place octets = 256 * u24_at place octets + slice_index octets (place + 3)

-- a number in two, three and four octets (ISO 10589 9)
abbrev pub u16_octets : ℕ → List ℕ
u16_octets n = n / 256 % 256 ∷ n % 256 ∷ []

abbrev pub u24_octets : ℕ → List ℕ
u24_octets n = n / 65536 % 256 ∷ u16_octets n

abbrev pub u32_octets : ℕ → List ℕ
u32_octets n = n / 16777216 % 256 ∷ u24_octets n

-- the identifiers that begin at a place (ISO 10589 9.8)
abbrev pub system_at : ℕ → List ℕ → SystemId
system_at place octets = record { 0 = take 6 (drop place octets) }

abbrev pub node_at : ℕ → List ℕ → NodeId
node_at place octets =
    record { system = system_at place octets; pseudonode = slice_index octets (place + 6) }

abbrev pub lsp_at : ℕ → List ℕ → LspId
lsp_at place octets =
    record { node = node_at place octets; number = slice_index octets (place + 7) }
