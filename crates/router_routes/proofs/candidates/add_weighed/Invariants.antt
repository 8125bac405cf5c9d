use Rattle.std.proofs.Common.{◌≡◌, ◌++◌, filter, drop}
use Rattle.router_routes.specs.Candidates.{is_weighed}
use Rattle.router_routes.proofs.candidates.add_weighed.Given as goal

-- the candidates so far, and those of what is left
abbrev pub invariant-loop-way : goal.invariant-loop-way
invariant-loop-way l = l.list.items ++ filter (is_weighed l.may) (drop l.way-index l.ways) ≡ l.fn.list.items ++ filter (is_weighed l.may) l.ways
