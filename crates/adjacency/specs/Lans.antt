-- The neighbours that are heard on a LAN, as the model of the router has them, and what becomes of
-- them (ISO 10589 8.4.2).
use Rattle.std.specs.Prelude.{◌≡◌, ℕ, ◌≤◌, ◌==◌, length, Bool, false, ◌&&◌, ◌||◌, not, List, [], ◌∷◌, Option, Some, None, if◌then◌else◌}
use Rattle.std.specs.List.{AllByRecursion}
use Rattle.model_router.specs.Maps.{put}
use Rattle.model_router.specs.Sorted.{RisesFrom}
use Rattle.model_router.specs.Both.{Both}
use Rattle.model_router.specs.Adjacencies.{Neighbour, Hello, neighbour_of}
use Rattle.model_router.specs.Routers.{LanNeighbour}
use Rattle.model_router.specs.Seconds.{is_over, some_over}
use Rattle.designated_is.specs.declared.candidate.Candidate.{Candidate}
use Rattle.adjacency.specs.declared.neighbour.Neighbour as code
use Rattle.adjacency.specs.declared.hello.AdjChange.{AdjChange}
use Rattle.adjacency.specs.declared.hello.AdjChange.TheVariants as change

-- What is always so of those heard (the bound: own): they are by SNPA, each once, and at most 200;
-- a neighbour's SNPA is its system ID.
pub record AreHeard (heard : List (ℕ × LanNeighbour)) : Type 0 where
  pub rises : RisesFrom 0 heard
  pub few : length heard ≤ 200
  pub snpas : AllByRecursion (λ pair. pair.1.neighbour.snpa ≡ pair.0) heard
  pub systems : AllByRecursion (λ pair. pair.1.neighbour.system ≡ pair.0) heard

-- all neighbours, by SNPA (own)
abbrev pub neighbours : List (ℕ × LanNeighbour) → List Neighbour
neighbours [] = []
neighbours (pair ∷ heard) = pair.1.neighbour ∷ neighbours heard

-- the neighbours in state Up, by SNPA (own)
abbrev pub ups : List (ℕ × LanNeighbour) → List Neighbour
ups [] = []
ups (pair ∷ heard) = if pair.1.up then pair.1.neighbour ∷ ups heard else ups heard

-- those heard after a hello with these levels in common: its sender is kept, Up where the hello
-- lists one's own SNPA (ISO 10589 8.4.2.4)
abbrev pub hear_lan : List (ℕ × LanNeighbour) → Both Bool → Hello → List (ℕ × LanNeighbour)
hear_lan heard common h =
    put heard h.snpa (record { up = h.names_me; neighbour = neighbour_of h common 0 })

-- whether a neighbour was heard and was Up (own)
abbrev pub was_up : Option LanNeighbour → Bool
was_up None = false
was_up (Some n) = n.up

-- whether a neighbour was heard in this boot (own)
abbrev pub has_boot : Option LanNeighbour → ℕ → Bool
has_boot None boot = false
has_boot (Some n) boot = n.neighbour.boot == boot

-- What became of a LAN neighbour, from what was kept of it before a hello, its boot number and
-- whether it is Up: its state became Up, or ceased to be Up, or it is new, as it also is in another
-- boot (own).
abbrev pub lan_change_of : Option LanNeighbour → ℕ → Bool → AdjChange
lan_change_of before boot up =
    if up && not (was_up before) then change.WentUp
    else (if was_up before && not up then change.LeftUp
    else (if has_boot before boot then change.None else change.Moved))

-- whether the time of a neighbour in state Up is over (ISO 10589 8.4.2)
abbrev pub some_up_over : List (ℕ × LanNeighbour) → Bool
some_up_over [] = false
some_up_over (pair ∷ heard) = (pair.1.up && is_over pair.1.neighbour) || some_up_over heard

-- what becomes of those heard in a second: one that was Up goes, or one that wasn't (own)
abbrev pub lan_less_change : List (ℕ × LanNeighbour) → AdjChange
lan_less_change heard =
    if some_up_over heard then change.LeftUp
    else (if some_over heard then change.Moved else change.None)

-- a neighbour as a candidate for the designated system (ISO 10589 8.4.5)
abbrev pub candidate_from : code.Neighbour → Candidate
candidate_from n = record { priority = n.priority; snpa = n.snpa; system = n.system }
