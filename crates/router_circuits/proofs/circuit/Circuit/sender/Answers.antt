use Rattle.router_circuits.proofs.UpLemmas.{up-rises}
use Rattle.router_circuits.proofs.circuit.Circuit.sender.Goals as goal

pub up_system-requires : goal.up_system-requires
up_system-requires c = up-rises _ _ c.up.ensures.heard c.up.ensures.up
