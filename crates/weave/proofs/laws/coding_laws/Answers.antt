use Rattle.weave.proofs.PortLemmas.{all-ported}
use Rattle.weave.proofs.BeginLemmas.{begins}
use Rattle.weave.proofs.laws.coding_laws.Goals as goal

pub returns-clause-ports : goal.returns-clause-ports
returns-clause-ports c = all-ported c.step_bonds.ensures.stays c.replay_laws.ensures.good

pub returns-clause-begin : goal.returns-clause-begin
returns-clause-begin c = begins c.begin_laws.ensures.track c.replay_laws.ensures.good
