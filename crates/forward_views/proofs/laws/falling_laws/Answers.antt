use Rattle.forward_views.proofs.MoveLemmas.{falls, costs_some}
use Rattle.forward_views.proofs.laws.falling_laws.Goals as goal

pub returns-clause-falls : goal.returns-clause-falls
returns-clause-falls c = falls

pub returns-clause-some : goal.returns-clause-some
returns-clause-some c = costs_some
