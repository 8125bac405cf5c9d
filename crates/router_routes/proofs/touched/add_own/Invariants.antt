use Rattle.std.proofs.Common.{◌≡◌, ◌++◌, ℕ, map, drop}
use Rattle.isis_base.specs.declared.prefix.Prefix.{Prefix}
use Rattle.router_routes.proofs.touched.add_own.Given as goal

-- the prefixes so far, and those of what is left
abbrev pub invariant-loop-one : goal.invariant-loop-one
invariant-loop-one l =
    l.prefixes.items ++ map (λ (one : Prefix × ℕ). one.0) (drop l.one-index l.own)
    ≡ l.fn.prefixes.items ++ map (λ (one : Prefix × ℕ). one.0) l.own
