-- An LSP in a reply is held with its rank and content after the step.
use Rattle.model_router.proofs.ExactLemmas.{step-exact}
use Rattle.model_router.proofs.laws.replies.step_exact.Goals as goal

pub returns : goal.returns
returns c = step-exact
