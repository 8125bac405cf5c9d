use Rattle.network_lab.proofs.TakeLemmas.{pull-off-ends, pull-ends, pull-happens}
use Rattle.network_lab.proofs.network.Network.pull.Goals as goal

pub returns-in-None : goal.returns-in-None
returns-in-None g c = pull-off-ends c.args.self.now c.args.router c.args.link c.circuit_on.result c.in-None.is c.circuit_on.ensures.place

pub returns-in-Some : goal.returns-in-Some
returns-in-Some g c =
    pull-ends c.args.self.now c.take.new.self c.args.router c.args.link c.in-Some.circuit c.circuit_on.result c.take.result
    c.requires.there c.requires.running c.in-Some.is c.circuit_on.ensures.place c.take.ensures

pub take-requires-clause-happens : goal.take-requires-clause-happens
take-requires-clause-happens g c = pull-happens c.args.self.now c.args.router c.args.link c.in-Some.circuit c.circuit_on.result c.in-Some.is c.circuit_on.ensures.place
