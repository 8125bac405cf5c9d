-- What stands between two ends of a link still stands after a step of either.
use Rattle.model_router.proofs.StandingLemmas.{stands-here, stands-there}
use Rattle.model_router.proofs.laws.flooding.standing_laws.Goals as goal

pub returns-clause-here : goal.returns-clause-here
returns-clause-here c = stands-here

pub returns-clause-there : goal.returns-clause-there
returns-clause-there c = stands-there
