-- The first item that is without something (own).
use Rattle.std.specs.Prelude.{◌≡◌, ◌<◌, ℕ, List, Some}
use Rattle.model_router.specs.Places.{nth}

-- each item has it
abbrev pub AllHave : {X : Type 0} → (X → Type 0) → List X → Type 0
AllHave {X} Has items = (place : ℕ) (item : X) → nth items place ≡ Some item → Has item

-- the item at this place hasn't it, and each one before has
pub record IsFirstWithout {X : Type 0} (Has : X → Type 0) (items : List X) (place : ℕ) : Type 0 where
  pub item : X
  pub at : nth items place ≡ Some item
  pub fails : Has item → ⊥
  pub before : (q : ℕ) (other : X) → q < place → nth items q ≡ Some other → Has other
