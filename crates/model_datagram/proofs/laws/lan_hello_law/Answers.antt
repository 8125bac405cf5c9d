-- LAN hellos read back.
use Rattle.model_datagram.proofs.HelloLemmas.{lan-reads}
use Rattle.model_datagram.proofs.laws.lan_hello_law.Goals as goal

pub returns : goal.returns
returns c = λ by config on d boot place level lan snpas b. lan-reads by config on d boot place b level lan snpas
