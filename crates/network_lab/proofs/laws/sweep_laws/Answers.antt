use Rattle.network_lab.proofs.LanLemmas.{swept-is}
use Rattle.network_lab.proofs.laws.sweep_laws.Goals as goal

pub returns : goal.returns
returns c = swept-is
