use Rattle.network_lab.proofs.TakeLemmas.{ending-stops, ending-goes, ending-configs, ok-claimed}
use Rattle.network_lab.proofs.network.Network.apply.Goals as goal

pub returns-clause-stops : goal.returns-clause-stops
returns-clause-stops g c = ending-stops c.args.event c.args.self.now c.happen-result.new.self c.happen-result.result c.happen-result.ensures

pub returns-clause-claimed : goal.returns-clause-claimed
returns-clause-claimed g c =
    ok-claimed c.happen-result.new.self c.happen-result.result (ending-goes c.args.event c.args.self.now c.happen-result.new.self c.happen-result.result c.happen-result.ensures) c.facts.ensures.claimed

pub returns-clause-configs : goal.returns-clause-configs
returns-clause-configs g c = ending-configs c.args.event c.args.self.now c.happen-result.new.self c.happen-result.result c.happen-result.ensures
