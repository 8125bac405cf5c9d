use Rattle.network_lab.proofs.TakeLemmas.{tick-ends, tick-happens}
use Rattle.network_lab.proofs.network.Network.tick.Goals as goal

pub returns : goal.returns
returns g c = tick-ends c.args.self.now c.take.new.self c.args.router c.take.result c.requires.there c.requires.running c.take.ensures

pub take-requires-clause-happens : goal.take-requires-clause-happens
take-requires-clause-happens g c = tick-happens c.args.self.now c.args.router
