use Rattle.std.proofs.Common.{◌≡◌, ◌++◌, map, drop}
use Rattle.router_routes.specs.Ways.{number_of}
use Rattle.router_routes.proofs.ways.add_numbers.Given as goal

-- the numbers so far, and those of what is left
abbrev pub invariant-loop-candidate : goal.invariant-loop-candidate
invariant-loop-candidate l =
    l.numbers.items ++ map number_of (drop l.candidate-index l.candidates) ≡ l.fn.numbers.items ++ map number_of l.candidates
