use Rattle.router_routes.proofs.CostLemmas.{costs-least}
use Rattle.router_routes.proofs.laws.costs_law.Goals as goal

pub returns : goal.returns
returns c = costs-least
