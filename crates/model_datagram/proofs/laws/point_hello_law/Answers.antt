-- Point-to-point hellos read back.
use Rattle.model_datagram.proofs.HelloLemmas.{point-reads}
use Rattle.model_datagram.proofs.laws.point_hello_law.Goals as goal

pub returns : goal.returns
returns c = λ by config on d boot place state extended named b. point-reads by config on d boot place b state extended named
