-- Whatever LSP or SNP a step sends reads back.
use Rattle.model_datagram.proofs.SendLemmas.{step-reads}
use Rattle.model_datagram.proofs.laws.step_reads.Goals as goal

pub returns : goal.returns
returns c = step-reads
