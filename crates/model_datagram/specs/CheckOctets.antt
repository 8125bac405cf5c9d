-- The checksum that an LSP is written with (ISO 8473 6.11, ISO 10589 7.3.11).
use Rattle.std.specs.Prelude.{ℕ, ◌+◌, ◌-◌, ◌*◌, ◌/◌, ◌%◌, List}
use Rattle.iso_checksum.specs.Checksum.{octet_sum, weighted_sum, with_pair}

-- the first of the two check octets, of the weighted sum with 0 in their places; the second has the
-- weight (ISO 8473 6.11)
abbrev pub first_check : ℕ → ℕ → ℕ → ℕ
first_check plain weighted weight = 255 - (weighted + weight * (255 - plain % 255)) % 255

-- ISO 8473 6.11
abbrev pub second_check : ℕ → ℕ → ℕ
second_check plain first = 255 - (plain + first) % 255

-- The checksum of octets that have 0 in the places of the check octets, of which the second stands
-- so many octets before the end, itself counted (7.3.11, ISO 8473 6.11).
unfoldable pub checksum_with : List ℕ → ℕ → ℕ
checksum_with octets weight =
    let first = first_check (octet_sum octets) (weighted_sum octets) weight in
    256 * first + second_check (octet_sum octets) first

-- octets with a checksum in the place of the check octets (7.3.11)
abbrev pub with_checksum : ℕ → ℕ → List ℕ → List ℕ
with_checksum place checksum octets = with_pair octets place (checksum / 256) (checksum % 256)
