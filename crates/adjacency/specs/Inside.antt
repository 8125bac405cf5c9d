-- How the neighbours that are heard on a LAN lie in two lists, all of them and those in state Up
-- (own).
use Rattle.std.specs.Prelude.{◌≡◌, ℕ, ◌-◌, ◌≤◌, ◌==◌, nat_le, Bool, ◌||◌, false, Option, Some, None, List, [], ◌∷◌, length, Result, MatchResult, is_some, if◌then◌else◌}
use Rattle.std.specs.List.{AllByRecursion}
use Rattle.model_router.specs.Maps.{find}
use Rattle.model_router.specs.Sorted.{RisesFrom}
use Rattle.model_router.specs.Routers.{LanNeighbour}
use Rattle.model_router.specs.Numbers.{system_number}
use Rattle.adjacency.specs.declared.neighbour.Neighbour.{Neighbour}
use Rattle.ordered.specs.Keyed.{IsPlace, IsGap}
use Rattle.adjacency.specs.Views.{neighbour_of, snpa_of, by_snpa}

-- ---- a list by SNPA

-- a place of the neighbour of an SNPA, where it is one of the list, and else where it would go
abbrev pub IsAt : List Neighbour → ℕ → Result ℕ ℕ → Type 0
IsAt ns snpa place = MatchResult place (IsPlace snpa_of ns snpa) (IsGap snpa_of ns snpa)

-- whether a neighbour is one in this boot
abbrev pub keeps_boot : Option Neighbour → ℕ → Bool
keeps_boot None boot = false
keeps_boot (Some n) boot = n.boot == boot

-- ---- a second

abbrev pub is_ended : Neighbour → Bool
is_ended n = nat_le n.left 1

abbrev pub less_by_one : Neighbour → Neighbour
less_by_one n = record n { left = n.left - 1 }

-- those whose time isn't over, a second later
abbrev pub all_less : List Neighbour → List Neighbour
all_less [] = []
all_less (n ∷ ns) = if is_ended n then all_less ns else less_by_one n ∷ all_less ns

abbrev pub some_ended : List Neighbour → Bool
some_ended [] = false
some_ended (n ∷ ns) = is_ended n || some_ended ns

-- ---- both lists as one: each neighbour with whether it is Up

-- those heard, each with whether it is on the other list too
abbrev pub tagged : {V : Type 0} → List (ℕ × V) → List (ℕ × V) → List (ℕ × (Bool × V))
tagged up [] = []
tagged up (pair ∷ heard) = (pair.0, (is_some (find up pair.0), pair.1)) ∷ tagged up heard

-- all of them, without the tag
abbrev pub untagged : {V : Type 0} → List (ℕ × (Bool × V)) → List (ℕ × V)
untagged [] = []
untagged (pair ∷ rest) = (pair.0, pair.1.1) ∷ untagged rest

-- those that are Up
abbrev pub chosen : {V : Type 0} → List (ℕ × (Bool × V)) → List (ℕ × V)
chosen [] = []
chosen (pair ∷ rest) = if pair.1.0 then (pair.0, pair.1.1) ∷ chosen rest else chosen rest

-- each as the model has it
abbrev pub shown : List (ℕ × (Bool × Neighbour)) → List (ℕ × LanNeighbour)
shown [] = []
shown (pair ∷ rest) =
    (pair.0, record { up = pair.1.0; neighbour = neighbour_of pair.1.1 }) ∷ shown rest

abbrev pub tags_of : List Neighbour → List Neighbour → List (ℕ × (Bool × Neighbour))
tags_of heard up = tagged (by_snpa up) (by_snpa heard)

-- the lists as the model has them
abbrev pub lan_of : List Neighbour → List Neighbour → List (ℕ × LanNeighbour)
lan_of heard up = shown (tags_of heard up)

-- at most 200 are heard, by SNPA and each once; those in the other list are some of them; each has
-- the room for 200
pub record IsLan (heard up : List Neighbour) (space up_space : ℕ) : Type 0 where
  pub rises : RisesFrom 0 (tags_of heard up)
  pub systems : AllByRecursion (λ n. system_number n.system ≡ snpa_of n) heard
  pub part : by_snpa up ≡ chosen (tags_of heard up)
  pub few : length heard ≤ 200
  pub room : 200 ≤ space
  pub up_room : 200 ≤ up_space
