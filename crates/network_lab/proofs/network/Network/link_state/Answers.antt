use Rattle.network_lab.proofs.StartLemmas.{pair-within}
use Rattle.network_lab.proofs.network.Network.link_state.Goals as goal

pub returns-in-Some-clause-within : goal.returns-in-Some-clause-within
returns-in-Some-clause-within g c = λ going none.
    pair-within c.args.self.now.seen c.args.link c.args.level c.pair.result c.in-Some.near c.in-Some.far c.pair_state.result c.requires c.pair.ensures.pair c.in-Some.is c.pair_state.ensures
    (c.facts.ensures.within going) none
