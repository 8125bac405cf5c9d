use Rattle.route_table.proofs.LookupLemmas.{LeaveAtLeast}
use Rattle.route_table.proofs.lookup.longest_place.Given as goal

abbrev pub invariant-loop-rest : goal.invariant-loop-rest
invariant-loop-rest l = LeaveAtLeast l.routes l.address l.rest
