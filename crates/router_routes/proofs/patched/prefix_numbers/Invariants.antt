use Rattle.std.proofs.Common.{◌≡◌, map, take}
use Rattle.isis_base.specs.Prefixes.{prefix_number}
use Rattle.router_routes.proofs.patched.prefix_numbers.Given as goal

-- the numbers of the prefixes so far
abbrev pub invariant-loop-prefix : goal.invariant-loop-prefix
invariant-loop-prefix l = l.numbers.items ≡ map prefix_number (take l.prefix-index l.prefixes)
