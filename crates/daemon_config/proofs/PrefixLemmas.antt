-- A prefix of its address and length.
use Rattle.std.proofs.Common.{◌≡◌, ℕ, Option, Some, None, refl}
use Rattle.std.specs.Prelude.{option_and_then}
use Rattle.std.specs.Option.{option_map}
use Rattle.isis_base.specs.declared.prefix.Prefix.{Prefix}
use Rattle.isis_base.specs.Prefixes.{prefix_from}
use Rattle.isis_base.proofs.PrefixValues.{prefix_from-prefix}

-- a prefix is made again of its address and length
pub prefix_of-parts : (o : Option Prefix) → option_and_then (λ (p : ℕ × ℕ). prefix_from p.0 p.1) (option_map (λ (prefix : Prefix). (prefix.address, prefix.length)) o) ≡ o
prefix_of-parts None = refl
prefix_of-parts (Some p) = prefix_from-prefix p p.address p.length refl refl
