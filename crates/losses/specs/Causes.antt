-- Why not all schedules were played (own).
use Rattle.std.specs.Prelude.{ℕ, ◌+◌, ◌≤◌, ◌<◌, Bool, List, length}
use Rattle.losses.specs.declared.player.Stop.{Stop}
use Rattle.losses.specs.declared.player.Stop.TheVariants as stop
use Rattle.losses.specs.declared.fault.LossesFault.{LossesFault}
use Rattle.losses.specs.declared.fault.LossesFault.TheVariants.{TooMany, Limit, OutOfMemory}
use Rattle.losses.specs.Trees.{losses_in}
use Rattle.losses.specs.Schedules.{Schedule}

-- a run that isn't played to its end
abbrev pub fault_of : Stop → LossesFault
fault_of stop.Limit = Limit
fault_of stop.OutOfMemory = OutOfMemory

-- some run with at most so many losses meets a limit (own)
pub record SomeMeets (meets : List Bool → Type 0) (most : ℕ) : Type 0 where
  pub fates : List Bool
  pub few : losses_in fates ≤ most
  pub met : meets fates

-- Why not all schedules of a list were played, where so many were before: they are too many, or some run
-- with at most so many losses meets a limit. Out of memory may come from each (own).
abbrev pub Cause : (List Bool → Type 0) → (most before : ℕ) → List Schedule → LossesFault → Type 0
Cause meets most before list TooMany = 16777216 < before + length list
Cause meets most before list Limit = SomeMeets meets most
Cause meets most before list OutOfMemory = Unit {0}

-- why one schedule more isn't counted, where so many were before
abbrev pub IsFull : ℕ → LossesFault → Type 0
IsFull before TooMany = 16777216 ≤ before
IsFull before Limit = ⊥
IsFull before OutOfMemory = Unit {0}
