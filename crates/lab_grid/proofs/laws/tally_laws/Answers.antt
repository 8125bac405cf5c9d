use Rattle.lab_grid.proofs.TallyLemmas.{exact-routes, exact-cost}
use Rattle.lab_grid.proofs.laws.tally_laws.Goals as goal

pub returns-clause-routes : goal.returns-clause-routes
returns-clause-routes c = exact-routes

pub returns-clause-cost : goal.returns-clause-cost
returns-clause-cost c = exact-cost
