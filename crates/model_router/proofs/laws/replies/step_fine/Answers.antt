-- What a reply says passes the tests of receiving.
use Rattle.model_router.proofs.FineLemmas.{step-fine}
use Rattle.model_router.proofs.laws.replies.step_fine.Goals as goal

pub returns : goal.returns
returns c = step-fine
