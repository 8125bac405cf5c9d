use Rattle.std.proofs.Common.{◌≡◌, drop, map}
use Rattle.adjacency.specs.Views.{neighbour_of}
use Rattle.router_circuits.specs.Elections.{candidate_of, elect}
use Rattle.router_circuits.proofs.election.elected.Given as goal

-- the greatest of the best so far and those that are left is that of all
abbrev pub invariant-loop-neighbour : goal.invariant-loop-neighbour
invariant-loop-neighbour l =
    elect (candidate_of l.best) (map neighbour_of (drop l.neighbour-index l.up))
    ≡ elect (candidate_of l.fn.oneself) (map neighbour_of l.up)
