-- A book's open circuits are those whose adjacency is up, before and after a step.
use Rattle.model_router.proofs.TouchSteps.{step-touch}
use Rattle.model_router.proofs.laws.adjacencies.step_follows.Goals as goal

pub returns : goal.returns
returns c = step-touch
