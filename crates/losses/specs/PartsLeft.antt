-- The schedules of a part, as they are played (own).
use Rattle.std.specs.Prelude.{ℕ, zero, suc, ◌+◌, ◌-◌, ◌%◌, ◌==◌, Bool, true, false, List, [], ◌∷◌, ◌++◌, if◌then◌else◌}
use Rattle.losses.specs.Trees.{Tree, Ends, Comes, quiet_cost}
use Rattle.losses.specs.Schedules.{Schedule, schedules}

-- that without a loss, which is in part 0
abbrev pub first_schedule : ℕ → Tree → List Schedule
first_schedule part tree =
    if 0 == part then record { fates = []; cost = quiet_cost tree } ∷ [] else []

-- those that lose the delivery of this place, after which the run goes on as this tree
abbrev pub lost_here : (parts part place : ℕ) → Tree → ℕ → List Bool → List Schedule
lost_here parts part place lost most fates =
    if place % parts == part then schedules lost (most - 1) (fates ++ true ∷ []) else []

-- those that lose something, where the next delivery has this place
abbrev pub part_losses : (parts part place : ℕ) → Tree → ℕ → List Bool → List Schedule
part_losses parts part place (Ends cost) most fates = []
part_losses parts part place (Comes arrives lost) zero fates = []
part_losses parts part place (Comes arrives lost) (suc most) fates =
    lost_here parts part place lost (suc most) fates
    ++ part_losses parts part (place + 1) arrives (suc most) (fates ++ false ∷ [])
