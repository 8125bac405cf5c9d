use Rattle.std.proofs.Common.{◌≡◌, ◌++◌, filter, map, drop}
use Rattle.router_routes.specs.Candidates.{own_candidate}
use Rattle.router_routes.specs.Ways.{is_for}
use Rattle.router_routes.proofs.candidates.add_own_for.Given as goal

-- the candidates so far, and those of what is left
abbrev pub invariant-loop-own : goal.invariant-loop-own
invariant-loop-own l =
    l.list.items ++ filter (is_for l.numbers) (map (own_candidate l.root) (drop l.own-index l.prefixes))
    ≡ l.fn.list.items ++ filter (is_for l.numbers) (map (own_candidate l.root) l.prefixes)
