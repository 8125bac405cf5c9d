-- The boots that are remembered of systems, as they lie in a list by system (own).
use Rattle.std.specs.Prelude.{ℕ, ◌≤◌, nat_le, nat_lt, Bool, ◌&&◌, List, length, Option, Some, None, is_none, Result, MatchResult, if◌then◌else◌}
use Rattle.model_router.specs.Maps.{find}
use Rattle.model_router.specs.Sorted.{RisesFrom}
use Rattle.ordered.specs.Keyed.{IsPlace, IsGap}

-- own
abbrev pub number_of : ℕ × ℕ → ℕ
number_of pair = pair.0

-- a place of a system's pair, where it is one of the list, and else where it would go
abbrev pub IsAtPair : List (ℕ × ℕ) → ℕ → Result ℕ ℕ → Type 0
IsAtPair boots system place =
    MatchResult place (IsPlace number_of boots system) (IsGap number_of boots system)

-- at most 256 systems, in order, each once, with the room for 256
pub record AreBoots (boots : List (ℕ × ℕ)) (space : ℕ) : Type 0 where
  pub rises : RisesFrom 0 boots
  pub few : length boots ≤ 256
  pub room : 256 ≤ space

-- whether a system isn't remembered where 256 are (own)
abbrev pub is_full : List (ℕ × ℕ) → ℕ → Bool
is_full boots system = nat_le 256 (length boots) && is_none (find boots system)

-- the greater of a boot number and the one that is remembered, if one is (own)
abbrev pub greater : ℕ → Option ℕ → ℕ
greater boot None = boot
greater boot (Some old) = if nat_lt boot old then old else boot
