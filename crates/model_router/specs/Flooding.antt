-- What makes flooding reliable on a point-to-point circuit (ISO 10589 7.3.17): what is held there
-- is flagged, unless as new a rank was heard there.
use Rattle.std.specs.Prelude.{◌≡◌, ℕ, ◌<◌, ◌≤◌, Bool, true, false, ◌⊎◌, Option}
use Rattle.isis_base.specs.declared.level.Level.{Level}
use Rattle.model_router.specs.Sets.{has}
use Rattle.model_router.specs.Cells.{Cell}
use Rattle.model_router.specs.LetGos.{lets_go}
use Rattle.model_router.specs.Routers.{LevelState, Router, level_of, book_of}
use Rattle.model_router.specs.Books.{Book, rank_of, srm_of, rank_at, srm_at}

-- where a point-to-point circuit is open, the flag of an LSP ID stands there, or a rank that was
-- heard there is at least the one held (own)
abbrev pub Covers : ℕ → Book → ℕ → ℕ → Type 0
Covers heard book id place =
    has book.opened place ≡ true → has book.p2p place ≡ true
    → (srm_at book id place ≡ true) ⊎ (rank_at book id ≤ heard)

-- What a part of a step does for flooding. `heard place id` is the greatest rank of an LSP ID that
-- the step hears on a circuit, `gone` are the LSP IDs that it lets go (own).
pub record Floods (heard : ℕ → ℕ → ℕ) (gone : ℕ → Bool) (old new : Book) : Type 0 where
  pub kinds : new.p2p ≡ old.p2p
  pub rank : (id : ℕ) → gone id ≡ false → rank_at old id ≤ rank_at new id
  pub covers : (id place : ℕ) → Covers (heard place id) old id place
      → Covers (heard place id) new id place
  pub rises : (id place : ℕ) → rank_at old id < rank_at new id
      → Covers (heard place id) new id place

-- the same of one LSP ID's cell, on the circuits of two sets (own)
abbrev pub CellCovers : ℕ → Option Cell → ℕ → Type 0
CellCovers heard cell place = (srm_of cell place ≡ true) ⊎ (rank_of cell ≤ heard)

-- own
pub record CellFloods (opened p2p : ℕ) (heard : ℕ → ℕ) (old new : Option Cell) : Type 0 where
  pub rank : rank_of old ≤ rank_of new
  pub covers : (place : ℕ) → has opened place ≡ true → has p2p place ≡ true
      → CellCovers (heard place) old place
      → CellCovers (heard place) new place
  pub rises : (place : ℕ) → has opened place ≡ true → has p2p place ≡ true
      → rank_of old < rank_of new
      → CellCovers (heard place) new place

-- what a part of a step does for one level: what was let go stays so, and it floods (own)
pub record Keeps (heard : ℕ → ℕ → ℕ) (old new : LevelState) : Type 0 where
  pub grows : (id : ℕ) → lets_go old.gone id ≡ true → lets_go new.gone id ≡ true
  pub floods : Floods heard (lets_go new.gone) old.book new.book

-- and for both levels (own)
pub record KeepsBoth (heard : Level → ℕ → ℕ → ℕ) (old new : Router) : Type 0 where
  pub on : (level : Level) → Keeps (heard level) (level_of old level) (level_of new level)

-- ---- one router and its neighbour

-- what one router holds of an LSP ID, the other holds as new or newer, or the first one's flag
-- stands on the circuit to it (own)
abbrev pub Stands : Router → ℕ → Router → Level → ℕ → Type 0
Stands a place b level id = Covers (rank_at (book_of b level) id) (book_of a level) id place

-- a router hasn't let an LSP ID go (own)
abbrev pub IsKept : Router → Level → ℕ → Type 0
IsKept r level id = lets_go (level_of r level).gone id ≡ false
