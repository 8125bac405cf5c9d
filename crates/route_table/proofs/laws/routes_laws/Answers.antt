use Rattle.route_table.specs.Routes.{IsHopTo}
use Rattle.route_table.proofs.OneLemmas.{one_table, one_longest}
use Rattle.route_table.proofs.laws.routes_laws.Goals as goal

pub returns-clause-routes : goal.returns-clause-routes
returns-clause-routes c = λ one two. one_table (IsHopTo one two)

pub returns-clause-longest : goal.returns-clause-longest
returns-clause-longest c = one_longest
