-- A circuit's flags of all LSP IDs, opened, closed, cleared, sent and walked over (ISO 10589
-- 7.3.15, 7.3.17; the form: own).
use Rattle.std.specs.Prelude.{ℕ, Bool, true, false, Option, Some, None, if◌then◌else◌}
use Rattle.isis_base.specs.declared.level.CircuitKind.{CircuitKind}
use Rattle.isis_base.specs.declared.level.CircuitKind.TheVariants.{PointToPoint, Lan}
use Rattle.model_router.specs.Maps.{each}
use Rattle.model_router.specs.Sets.{has, with_one}
use Rattle.model_router.specs.Cells.{Cell, srm_off, srm_sent}
use Rattle.model_router.specs.Books.{Book}
use Rattle.model_router.specs.Openings.{silenced, close}

-- a circuit's flags are cleared
abbrev pub cleared : Book → ℕ → Book
cleared book place =
    record book { cells = each (λ (_ : ℕ) (cell : Cell). silenced cell place) book.cells }

-- a circuit is opened, which sets no flag, or closed, which clears its flags
abbrev pub open_or_close : Book → ℕ → Bool → Book
open_or_close book place up =
    if up then record book { opened = with_one book.opened place } else close book place

-- a cell after its LSP was sent on a circuit
abbrev pub sent_on : ℕ → ℕ → Cell → Cell
sent_on points place cell = if has points place then srm_sent cell place else srm_off cell place

-- whether a circuit of a kind is point-to-point
abbrev pub is_point : Option CircuitKind → Bool
is_point None = false
is_point (Some PointToPoint) = true
is_point (Some Lan) = false
