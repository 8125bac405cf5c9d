use Rattle.router_core.proofs.ReachedLemmas.{restart-reached, step-reached}
use Rattle.router_core.proofs.reached.reached_laws.Goals as goal

-- src/reached.rt
pub returns-clause-restart : goal.returns-clause-restart
returns-clause-restart c = restart-reached

-- src/reached.rt
pub returns-clause-step : goal.returns-clause-step
returns-clause-step c = step-reached
