use Rattle.router_sending.proofs.HeldLemmas.{sendable-puttable}
use Rattle.router_sending.proofs.laws.sendable_law.Goals as goal

pub returns : goal.returns
returns c = sendable-puttable
