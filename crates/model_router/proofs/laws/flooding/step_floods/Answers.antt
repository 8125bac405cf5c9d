-- A step keeps the flooding of both levels.
use Rattle.model_router.proofs.StepLemmas.{step-keeps}
use Rattle.model_router.proofs.laws.flooding.step_floods.Goals as goal

pub returns : goal.returns
returns c = step-keeps
