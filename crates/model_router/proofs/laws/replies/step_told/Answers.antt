-- A CSNP in a reply tells the keys in its range that are held after the step.
use Rattle.model_router.proofs.KeyLemmas.{step-told}
use Rattle.model_router.proofs.laws.replies.step_told.Goals as goal

pub returns : goal.returns
returns c = step-told
