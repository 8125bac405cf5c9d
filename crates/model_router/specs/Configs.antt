-- A router's configuration with the changes so far, its circuits aside (own).
use Rattle.std.specs.Prelude.{ℕ, Bool, List, Option}
use Rattle.model_router.specs.Both.{Both}

-- The system ID (ISO 10589 7.1), the area addresses, the levels that are run, whether L2 routes are
-- leaked into L1 (RFC 5302 3), whether overload is set (ISO 10589 7.3.19), the own prefixes with
-- their metrics in order, a prefix as 64 times its address plus its length, and the keys of L1 and
-- L2 (RFC 5304 3).
pub record Config : Type 0 where
  pub system : ℕ
  pub areas : List (List ℕ)
  pub runs : Both Bool
  pub leak : Bool
  pub overload : Bool
  pub prefixes : List (ℕ × ℕ)
  pub keys : Both (Option (List ℕ))
