-- Where flags stand and what they wait, in every state that is reached (ISO 10589 7.3.15, 7.3.17).
use Rattle.std.specs.Prelude.{◌≡◌, ℕ, ◌<◌, ◌≤◌, true, Option, Some, None}
use Rattle.isis_base.specs.declared.level.Level.{Level}
use Rattle.model_router.specs.Sets.{has}
use Rattle.model_router.specs.Waits.{wait}
use Rattle.model_router.specs.Cells.{Cell}
use Rattle.model_router.specs.Books.{Book, cell_at, srm_at, ssn_at}
use Rattle.model_router.specs.Routers.{Router, book_of}

-- SRM and SSN of every LSP ID stand on circuits that are open for the level, and on no other
-- (7.3.15, 7.3.17; that a circuit that closes loses its flags: own)
pub record FlagsAreOpen (r : Router) : Type 0 where
  pub srm : (level : Level) (id place : ℕ) → srm_at (book_of r level) id place ≡ true
      → has (book_of r level).opened place ≡ true
  pub ssn : (level : Level) (id place : ℕ) → ssn_at (book_of r level) id place ≡ true
      → has (book_of r level).opened place ≡ true

-- own
abbrev pub wait_of : Option Cell → ℕ → ℕ
wait_of None place = 0
wait_of (Some cell) place = wait cell.waits place

-- the seconds until an LSP ID may be sent again on a circuit (7.3.15.5)
abbrev pub wait_at : Book → ℕ → ℕ → ℕ
wait_at book id place = wait_of (cell_at book id) place

-- what waits on a circuit has SRM there, and waits five seconds at most (7.3.15.5,
-- minimumLSPTransmissionInterval)
pub record WaitsAreFlagged (r : Router) : Type 0 where
  pub flagged : (level : Level) (id place : ℕ) → 0 < wait_at (book_of r level) id place
      → srm_at (book_of r level) id place ≡ true
  pub most : (level : Level) (id place : ℕ) → wait_at (book_of r level) id place ≤ 5
