-- Cells in rising order of LSP ID (own).
use Rattle.std.specs.Prelude.{ℕ, ◌+◌, ◌≤◌, List, [], ◌∷◌}
use Rattle.isis_base.specs.declared.level.Level.{Level}
use Rattle.model_router.specs.Routers.{Router, book_of}

-- the keys rise from a least one on, so no two are one (own)
abbrev pub RisesFrom : {V : Type 0} → ℕ → List (ℕ × V) → Type 0
RisesFrom least [] = Unit {0}
RisesFrom least (pair ∷ map) = (least ≤ pair.0) × RisesFrom (pair.0 + 1) map

-- each level's cells are by LSP ID (own)
pub record IsSorted (r : Router) : Type 0 where
  pub on : (level : Level) → RisesFrom 0 (book_of r level).cells
