-- Purges read back.
use Rattle.model_datagram.proofs.PurgeLemmas.{purge-reads}
use Rattle.model_datagram.proofs.laws.purge_law.Goals as goal

pub returns : goal.returns
returns c = λ by config on d boot place level id cell b. purge-reads by config on d boot place b level id cell
