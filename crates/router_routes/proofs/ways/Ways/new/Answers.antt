use Rattle.std.proofs.Common.{ℕ, List, sym, subst}
use Rattle.std.specs.List.Sorted.{IsStrictlyIncreasing}
use Rattle.route_table.specs.declared.candidate.Candidate.{Candidate}
use Rattle.router_routes.specs.Ways.{AreAtNumbers, AreWays}
use Rattle.router_routes.proofs.WayLemmas.{new-are}
use Rattle.router_routes.proofs.ways.Ways.new.Goals as goal

pub rows_after-requires-clause-numbers : goal.rows_after-requires-clause-numbers
rows_after-requires-clause-numbers c = subst IsStrictlyIncreasing (sym c.as_slice.ensures.value) c.in_ok-numbers.ensures.rising

pub returns : goal.returns
returns c =
    subst (λ (rows : List (ℕ × List Candidate)). AreWays rows c.args.list.now) (sym c.in_ok-rows.ensures.rows)
    (new-are c.args.list.now c.as_slice.result.now (subst (AreAtNumbers c.args.list.now) (sym c.as_slice.ensures.value) c.in_ok-numbers.ensures.some))
