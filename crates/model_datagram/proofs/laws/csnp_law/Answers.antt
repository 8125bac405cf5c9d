-- CSNPs read back.
use Rattle.model_datagram.proofs.SnpLemmas.{csnp-reads}
use Rattle.model_datagram.proofs.laws.csnp_law.Goals as goal

pub returns : goal.returns
returns c = λ by config on d boot place level start end entries b. csnp-reads by config on d boot place b level start end entries
