-- A CSNP set covers all LSP IDs once, and lists the keys that are held, in order.
use Rattle.model_router.proofs.CsnpLemmas.{csnp_set-covers}
use Rattle.model_router.proofs.laws.replies.csnp_set_law.Goals as goal

pub returns : goal.returns
returns c = csnp_set-covers
