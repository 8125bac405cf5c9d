-- LSP IDs in a sorted list (own).
use Rattle.std.specs.Prelude.{ℕ, ◌+◌, ◌≤◌, Bool, List, [], ◌∷◌, length, Some, None, if◌then◌else◌}
use Rattle.isis_base.specs.declared.identifiers.LspId.{LspId}
use Rattle.model_router.specs.LetGos.{LetGo}
use Rattle.flag_sync.specs.Walks.{numbers_of}

-- numbers rise from a least one on
abbrev pub Rises : ℕ → List ℕ → Type 0
Rises least [] = Unit {0}
Rises least (n ∷ ns) = (least ≤ n) × Rises (n + 1) ns

-- what is let go: all, or those of a list
abbrev pub gone_of : Bool → List LspId → LetGo
gone_of all ids = if all then None else Some (numbers_of ids)

-- a list has at most 4,096 LSP IDs in order, and the room for so many
pub record IsListed (ids : List LspId) (capacity : ℕ) : Type 0 where
  pub rises : Rises 0 (numbers_of ids)
  pub few : length ids ≤ 4096
  pub room : 4096 ≤ capacity
