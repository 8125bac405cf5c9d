-- What becomes of a packet, whatever number of moves it makes (own).
use Rattle.std.specs.Prelude.{◌≡◌, ℕ, List, ◌∷◌, ◌++◌}
use Rattle.std.specs.List.{Contains}
use Rattle.trace_core.specs.declared.step.Step.{Step}
use Rattle.trace_core.specs.declared.step.Step.TheVariants.{Home, On, Lost}
use Rattle.trace_core.specs.declared.step.End.{End}
use Rattle.trace_core.specs.declared.step.End.TheVariants as ended
use Rattle.trace_core.specs.declared.step.Traced.{Traced}
use Rattle.trace_core.specs.Traces.{AreMoves, by}

-- the packet makes just the moves to these places, and at the last of them this is so: any moves
-- that it can make are the first ones of these
pub record EndsAt (step : ℕ → Step) (from : ℕ) (places : List ℕ) (is : Step) : Type 0 where
  pub more : List ℕ
  pub last : ℕ
  pub places_are : places ≡ from ∷ more
  pub moves : AreMoves (by step) from more last
  pub ends : step last ≡ is
  pub only : (some : List ℕ) (to : ℕ) → AreMoves (by step) from some to
      → (rest : List ℕ) × (more ≡ some ++ rest)

-- the packet never stops: after any moves it is at one of these places, and it can move once more
pub record NeverEnds (step : ℕ → Step) (from : ℕ) (places : List ℕ) : Type 0 where
  pub goes_on : (some : List ℕ) (to : ℕ) → AreMoves (by step) from some to
      → Contains places to × ((next : ℕ) × (step to ≡ On next))

abbrev pub IsFateOf : (ℕ → Step) → ℕ → List ℕ → End → Type 0
IsFateOf step from places ended.Arrives = EndsAt step from places Home
IsFateOf step from places ended.Lost = EndsAt step from places Lost
IsFateOf step from places (ended.Loops back) = NeverEnds step from places

-- what becomes of a packet whose way is this one
abbrev pub IsFate : (ℕ → Step) → ℕ → Traced → Type 0
IsFate step from traced = IsFateOf step from traced.places.items traced.end
