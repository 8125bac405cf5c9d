-- The purge of what tells itself tells itself.
use Rattle.model_datagram.proofs.KeptLemmas.{purged-tells}
use Rattle.model_datagram.proofs.laws.purged_law.Goals as goal

pub returns : goal.returns
returns c = purged-tells
