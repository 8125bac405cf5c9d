-- Places that a packet may come to, as they are found. All of it own.
use Rattle.std.specs.Prelude.{◌≡◌, ◌<◌, ℕ, List, ◌∷◌, [], ◌++◌, ◌↔◌, ◌⊎◌}
use Rattle.std.specs.List.{Contains}
use Rattle.trace_core.specs.declared.step.Step.{Step}
use Rattle.trace_core.specs.declared.step.Step.TheVariants.{Home, On, Lost}
use Rattle.trace_core.specs.Traces.{AreOnce}
use Rattle.trace_core.specs.Whichever.{may, MayMove}

-- places are below a number
abbrev pub AreBelow : ℕ → List ℕ → Type 0
AreBelow many places = (place : ℕ) → Contains places place → place < many

-- just the places that a packet may come to after one move at least
pub record AreReached (ways : ℕ → List Step) (many from : ℕ) (found : List ℕ) : Type 0 where
  pub all : (place : ℕ) → Contains found place ↔ MayMove ways from place
  pub below : AreBelow many found

-- a place was added at the end, or was there
abbrev pub IsWith : ℕ → List ℕ → List ℕ → Type 0
IsWith next old new =
    (Contains old next × (new ≡ old)) ⊎ ((Contains old next → ⊥) × (new ≡ old ++ next ∷ []))

-- the same of the place that a step leads to, if it leads on
abbrev pub IsAdded : Step → List ℕ → List ℕ → Type 0
IsAdded Home old new = new ≡ old
IsAdded (On next) old new = IsWith next old new
IsAdded Lost old new = new ≡ old

-- the places to which a packet may go on from one were added to those found
pub record IsSpread (ways : ℕ → List Step) (many place : ℕ) (old new : List ℕ) : Type 0 where
  pub more : List ℕ
  pub longer : new ≡ old ++ more
  pub from : (next : ℕ) → Contains more next → may ways place (On next)
  pub here : (next : ℕ) → may ways place (On next) → Contains new next
  pub once : AreOnce old → AreOnce new
  pub below : AreBelow many old → AreBelow many new

-- a place is one of these, at which it may end so
abbrev pub EndsAmong : (ℕ → List Step) → List ℕ → Step → Type 0
EndsAmong ways places end = (place : ℕ) × Contains places place × may ways place end

-- a place is one of these, to which it may come back
abbrev pub LoopsAmong : (ℕ → List Step) → List ℕ → Type 0
LoopsAmong ways places = (place : ℕ) × Contains places place × MayMove ways place place
