-- What a reply says of LSPs is held after the step, with that rank or a newer one, unless the LSP ID was let go.
use Rattle.model_router.proofs.SentLemmas.{step-reply}
use Rattle.model_router.proofs.laws.replies.step_reply.Goals as goal

pub returns : goal.returns
returns c = step-reply
