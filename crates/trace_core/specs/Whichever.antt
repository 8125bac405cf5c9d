-- What may become of a packet, whichever ways it takes (own).
use Rattle.std.specs.Prelude.{ℕ, List, ◌∷◌, IsTrue, ◌↔◌}
use Rattle.std.specs.List.{Contains}
use Rattle.trace_core.specs.declared.step.Step.{Step}
use Rattle.trace_core.specs.declared.step.Step.TheVariants.{Home, Lost}
use Rattle.trace_core.specs.declared.outcomes.Outcomes.{Outcomes}
use Rattle.trace_core.specs.Traces.{AreMoves}

-- one of the ways at a place is this
abbrev pub may : (ℕ → List Step) → ℕ → Step → Type 0
may ways place step = Contains (ways place) step

-- a packet may come to a place after some moves, or none
abbrev pub MayCome : (ℕ → List Step) → ℕ → ℕ → Type 0
MayCome ways from to = (places : List ℕ) × AreMoves (may ways) from places to

-- the same after one move at least
abbrev pub MayMove : (ℕ → List Step) → ℕ → ℕ → Type 0
MayMove ways from to = (next : ℕ) × (places : List ℕ) × AreMoves (may ways) from (next ∷ places) to

-- it may come to a place where it may be at home, or where it may be lost
abbrev pub MayEnd : (ℕ → List Step) → ℕ → Step → Type 0
MayEnd ways from end = (last : ℕ) × MayCome ways from last × may ways last end

-- it may come to a place from which it may come back there
abbrev pub MayLoop : (ℕ → List Step) → ℕ → Type 0
MayLoop ways from = (at : ℕ) × MayCome ways from at × MayMove ways at at

-- just what may become of it
pub record AreOutcomes (ways : ℕ → List Step) (from : ℕ) (outcomes : Outcomes) : Type 0 where
  pub arrives : IsTrue outcomes.arrives ↔ MayEnd ways from Home
  pub loops : IsTrue outcomes.loops ↔ MayLoop ways from
  pub lost : IsTrue outcomes.lost ↔ MayEnd ways from Lost
