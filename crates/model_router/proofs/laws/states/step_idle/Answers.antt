-- The CSNP counter stands at 0 where the router isn't designated, before and after a step.
use Rattle.model_router.proofs.StartLemmas.{step-idle}
use Rattle.model_router.proofs.laws.states.step_idle.Goals as goal

pub returns : goal.returns
returns c = step-idle
