-- What the opening and closing of a circuit does to a level's flags (ISO 10589 7.3.17; that a
-- circuit that closes loses its flags: own).
use Rattle.std.specs.Prelude.{ℕ, nat_lt, Bool, if◌then◌else◌}
use Rattle.model_router.specs.Maps.{each}
use Rattle.model_router.specs.Sets.{has, with_one, without}
use Rattle.model_router.specs.Cells.{Cell, srm_on, srm_off, ssn_off}
use Rattle.model_router.specs.Books.{Book}

-- a cell without the flags of a circuit (own)
abbrev pub silenced : Cell → ℕ → Cell
silenced cell place = ssn_off (srm_off cell place) place

-- a circuit closes: its flags are cleared (own)
unfoldable pub close : Book → ℕ → Book
close book place = record book {
  opened = without book.opened place;
  cells = each (λ _ cell. silenced cell place) book.cells;
}

-- a cell with SRM on a circuit where a key is held (7.3.17)
abbrev pub marked : Cell → ℕ → Cell
marked cell place = if nat_lt 0 cell.rank then srm_on cell place else cell

-- SRM is set on a circuit for every key that is held (7.3.17)
unfoldable pub mark_all : Book → ℕ → Book
mark_all book place = record book { cells = each (λ _ cell. marked cell place) book.cells }

-- a circuit opens: on a point-to-point one SRM is set for every key, on a LAN nothing (7.3.17)
unfoldable pub open_up : Book → ℕ → Book
open_up book place = record book {
  opened = with_one book.opened place;
  cells = each (λ _ cell. if has book.p2p place then marked cell place else cell) book.cells;
}

-- a circuit is to be open or not; what is so already stays as it is (own)
abbrev pub set_open : Book → ℕ → Bool → Book
set_open book place up =
    if up
    then (if has book.opened place then book else open_up book place)
    else (if has book.opened place then close book place else book)
