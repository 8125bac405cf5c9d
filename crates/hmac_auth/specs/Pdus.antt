-- LSPs and purges, and the octets that a digest is taken of.
use Rattle.std.specs.Prelude.{◌≡◌, ℕ, ◌+◌, ◌%◌, ◌≤◌, ◌==◌, ◌&&◌, ◌||◌, Bool, List, ◌++◌, length, take, drop, replicate, slice_index, Option, Some, None, if◌then◌else◌}
use Rattle.isis_base.specs.Fields.{u16_at}

-- the type of a PDU: the low five bits of the octet at 4 (ISO 10589 9)
abbrev pub pdu_type : List ℕ → ℕ
pdu_type pdu = slice_index pdu 4 % 32

-- an LSP of level 1 or 2 (ISO 10589 9)
abbrev pub is_lsp : List ℕ → Bool
is_lsp pdu = (pdu_type pdu == 18) || (pdu_type pdu == 20)

-- an LSP whose remaining lifetime, at 10, is 0 (ISO 10589 7.3.16.4)
abbrev pub is_purge : List ℕ → Bool
is_purge pdu = is_lsp pdu && (u16_at 10 pdu == 0)

-- the octets with these from a place on (own)
abbrev pub with_piece : ℕ → List ℕ → List ℕ → List ℕ
with_piece place piece octets = take place octets ++ (piece ++ drop (place + length piece) octets)

-- the octets with so many from a place on zero (own)
abbrev pub zeroed : ℕ → ℕ → List ℕ → List ℕ
zeroed place count octets = with_piece place (replicate count 0) octets

-- the octets that the digest at a place is taken of: its own sixteen are zero, and in an LSP also the two of the
-- remaining lifetime, at 10, and of the checksum, at 24 (RFC 5304 2)
unfoldable pub blanked : List ℕ → ℕ → List ℕ
blanked pdu place =
    if is_lsp pdu then zeroed 10 2 (zeroed 24 2 (zeroed place 16 pdu)) else zeroed place 16 pdu
