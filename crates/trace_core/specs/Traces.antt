-- A packet's way from place to place (own).
use Rattle.std.specs.Prelude.{◌≡◌, ◌<◌, ℕ, List, [], ◌∷◌, Some, slice_get}
use Rattle.std.specs.List.{Contains}
use Rattle.trace_core.specs.declared.step.Step.{Step}
use Rattle.trace_core.specs.declared.step.Step.TheVariants.{Home, On, Lost}
use Rattle.trace_core.specs.declared.step.End.{End}
use Rattle.trace_core.specs.declared.step.End.TheVariants as ended
use Rattle.trace_core.specs.declared.step.Traced.{Traced}

-- a step leads to one of so many places, if it leads on
abbrev pub IsInside : ℕ → Step → Type 0
IsInside many Home = Unit {0}
IsInside many (On next) = next < many
IsInside many Lost = Unit {0}

-- each place says what this function says
abbrev pub by : (ℕ → Step) → ℕ → Step → Type 0
by step place is = step place ≡ is

-- moves one after another, to these further places, the last of which is `to`
abbrev pub AreMoves : (ℕ → Step → Type 0) → ℕ → List ℕ → ℕ → Type 0
AreMoves Is from [] to = to ≡ from
AreMoves Is from (next ∷ places) to = Is from (On next) × AreMoves Is next places to

-- how the way ends at the last of its places
abbrev pub IsEnd : (ℕ → Step → Type 0) → List ℕ → ℕ → End → Type 0
IsEnd Is places last ended.Arrives = Is last Home
IsEnd Is places last ended.Lost = Is last Lost
IsEnd Is places last (ended.Loops back) =
    (next : ℕ) × (slice_get places back ≡ Some next) × Is last (On next)

-- the next place, one of so many, is none of those on the way
abbrev pub IsNew : (ℕ → Step → Type 0) → ℕ → List ℕ → ℕ → ℕ → Type 0
IsNew Is many places last next =
    Is last (On next) × (next < many) × (Contains places next → ⊥)

-- no place stands twice
abbrev pub AreOnce : List ℕ → Type 0
AreOnce [] = Unit {0}
AreOnce (place ∷ places) = (Contains places place → ⊥) × AreOnce places

-- the way: from a place by moves to others, no place twice, and its end
pub record IsTraced (Is : ℕ → Step → Type 0) (from : ℕ) (traced : Traced) : Type 0 where
  pub more : List ℕ
  pub last : ℕ
  pub places_are : traced.places.items ≡ from ∷ more
  pub moves : AreMoves Is from more last
  pub once : AreOnce traced.places.items
  pub ends : IsEnd Is traced.places.items last traced.end
