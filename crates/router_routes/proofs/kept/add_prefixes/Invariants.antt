use Rattle.std.proofs.Common.{◌≡◌, ◌++◌, map, drop}
use Rattle.router_routes.specs.Ways.{prefix_of}
use Rattle.router_routes.proofs.kept.add_prefixes.Given as goal

-- the prefixes so far, and those of what is left
abbrev pub invariant-loop-candidate : goal.invariant-loop-candidate
invariant-loop-candidate l =
    l.prefixes.items ++ map prefix_of (drop l.candidate-index l.candidates) ≡ l.fn.prefixes.items ++ map prefix_of l.candidates
