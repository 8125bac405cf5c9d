-- Whether a level's own LSPs are looked at when a router's state is noted (own).
use Rattle.std.specs.Prelude.{ℕ, ◌-◌, ◌^◌, ◌==◌, nat_lt, Bool, ◌&&◌, List}
use Rattle.isis_base.specs.declared.level.Level.{Level}
use Rattle.model_router.specs.Routers.{Router}
use Rattle.model_router.specs.Sorted.{IsSorted}
use Rattle.lab_facts.specs.Seen.{IsSeen}

-- a router's cells are in order, and all that it holds live of its own LSP IDs was seen in these states
pub record IsNoted (past : List Router) (r : Router) : Type 0 where
  pub sorted : IsSorted r
  pub own : (level : Level) → IsSeen past level r

-- a count of changes stands where it did, short of its type's last value
abbrev pub stands : ℕ → ℕ → Bool
stands before now = before == now && nat_lt now (2 ^ 64 - 1)
