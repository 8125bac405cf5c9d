-- PSNPs read back.
use Rattle.model_datagram.proofs.SnpLemmas.{psnp-reads}
use Rattle.model_datagram.proofs.laws.psnp_law.Goals as goal

pub returns : goal.returns
returns c = λ by config on d boot place level entries b. psnp-reads by config on d boot place b level entries
