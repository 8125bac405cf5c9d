-- The fates of the deliveries to come, the place of the next one, and the deliveries that were lost (own).
use Rattle.std.specs.Prelude.{ℕ, Bool, List}
use Rattle.lossy_runs.specs.declared.loss.Loss.{Loss}

-- own
pub record Rest : Type 0 where
  pub fates : List Bool
  pub place : ℕ
  pub lost : List Loss
