-- One level's database with its flags (ISO 10589 7.3.15), and how one LSP ID's cell is read and
-- replaced (own).
use Rattle.std.specs.Prelude.{ℕ, ◌+◌, ◌-◌, ◌^◌, ◌==◌, Bool, false, List, length, nat_lt, Option, Some, None, if◌then◌else◌}
use Rattle.model_router.specs.Maps.{find, set_at}
use Rattle.model_router.specs.Sets.{has}
use Rattle.model_router.specs.Cells.{Cell}

-- Cells by LSP ID (ISO 10589 7.3.15), the circuits that are open for the level, those that are
-- point-to-point, and how often a key changed (own).
pub record Book : Type 0 where
  pub cells : List (ℕ × Cell)
  pub opened : ℕ
  pub p2p : ℕ
  pub changes : ℕ

-- what is held of an LSP ID (own)
abbrev pub cell_at : Book → ℕ → Option Cell
cell_at book id = find book.cells id

-- own
abbrev pub rank_of : Option Cell → ℕ
rank_of None = 0
rank_of (Some cell) = cell.rank

-- the rank of the key that is held of an LSP ID (own)
abbrev pub rank_at : Book → ℕ → ℕ
rank_at book id = rank_of (cell_at book id)

-- own
abbrev pub checksum_of : Option Cell → ℕ
checksum_of None = 0
checksum_of (Some cell) = cell.checksum

-- 7.3.15
abbrev pub srm_of : Option Cell → ℕ → Bool
srm_of None place = false
srm_of (Some cell) place = has cell.srm place

-- 7.3.15
abbrev pub ssn_of : Option Cell → ℕ → Bool
ssn_of None place = false
ssn_of (Some cell) place = has cell.ssn place

-- 7.3.15
abbrev pub srm_at : Book → ℕ → ℕ → Bool
srm_at book id place = srm_of (cell_at book id) place

-- 7.3.15
abbrev pub ssn_at : Book → ℕ → ℕ → Bool
ssn_at book id place = ssn_of (cell_at book id) place

-- whether a further LSP ID finds the book full (own)
abbrev pub is_full : Book → Bool
is_full book = length book.cells == 65536

-- a count that stays at its last value (own)
abbrev pub risen : ℕ → ℕ
risen count = if nat_lt count (2 ^ 64 - 1) then count + 1 else count

-- the book with what is held of one LSP ID replaced (own)
unfoldable pub set_cell : Book → ℕ → Option Cell → Book
set_cell book id cell = record book {
  cells = set_at book.cells id cell;
  changes = if rank_of cell == rank_at book id then book.changes else risen book.changes;
}
