-- Who is elected on a LAN: the greatest of oneself and the Up neighbours (ISO 10589 8.4.5).
use Rattle.std.specs.Prelude.{◌≡◌, ℕ, true, false, ◌⊎◌, List, [], ◌∷◌}
use Rattle.std.specs.List.{AllByRecursion}
use Rattle.isis_base.specs.declared.level.Level.{Level}
use Rattle.model_router.specs.Both.{at}
use Rattle.model_router.specs.Configs.{Config}
use Rattle.model_router.specs.Routers.{LanNeighbour, Circuit}
use Rattle.model_router.specs.Elections.{Candidate, beats, candidate, oneself}

-- a candidate is oneself, or a neighbour that is Up (8.4.5)
abbrev pub IsOneOf : Candidate → Candidate → List (ℕ × LanNeighbour) → Type 0
IsOneOf x own [] = x ≡ own
IsOneOf x own (pair ∷ heard) =
    ((pair.1.up ≡ true) × (x ≡ candidate pair.1.neighbour)) ⊎ IsOneOf x own heard

-- no neighbour that is Up stands before a candidate (8.4.5)
abbrev pub IsUnbeaten : Candidate → List (ℕ × LanNeighbour) → Type 0
IsUnbeaten x heard = AllByRecursion
    (λ (pair : ℕ × LanNeighbour). pair.1.up ≡ true → beats (candidate pair.1.neighbour) x ≡ false)
    heard

-- who is elected on a LAN and level (8.4.5)
pub record IsElected (config : Config) (place : ℕ) (c : Circuit) (level : Level)
    (x : Candidate) : Type 0 where
  pub one : IsOneOf x (oneself config place c) (at c.levels level).heard
  pub own : beats (oneself config place c) x ≡ false
  pub others : IsUnbeaten x (at c.levels level).heard

-- two candidates that are one (own)
pub record SameRank (a b : Candidate) : Type 0 where
  pub priority : a.priority ≡ b.priority
  pub snpa : a.snpa ≡ b.snpa
  pub system : a.system ≡ b.system
