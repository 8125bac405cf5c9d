-- The numbers of the prefixes that were named (own).
use Rattle.std.specs.Prelude.{◌≡◌, ℕ, ◌==◌, List}
use Rattle.std.specs.List.{list_any}
use Rattle.std.specs.Ordering.{nat_cmp}
use Rattle.std.specs.BTreeSet.{BTreeSet, contains}
use Rattle.isis_base.specs.declared.prefix.Prefix.{Prefix}
use Rattle.router_desk.specs.Limits.{numbers_of}

-- a set has the numbers of these prefixes, and no others
pub record HasNumbers (named : BTreeSet ℕ) (prefixes : List (Prefix × ℕ)) : Type 0 where
  pub each : (n : ℕ) → contains nat_cmp named n ≡ list_any (λ m. m == n) (numbers_of prefixes)
