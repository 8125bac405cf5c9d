-- A step keeps a good router good.
use Rattle.model_router.proofs.GoodSteps.{step-good, step-telling}
use Rattle.model_router.proofs.laws.states.step_good.Goals as goal

pub returns-clause-good : goal.returns-clause-good
returns-clause-good c = step-good

pub returns-clause-telling : goal.returns-clause-telling
returns-clause-telling c = step-telling
