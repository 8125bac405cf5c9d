use Rattle.network_lab.proofs.LanLemmas.{member-less}
use Rattle.network_lab.proofs.network.Network.lan_state.Goals as goal

pub sees-sees-requires : goal.sees-sees-requires
sees-sees-requires g c = member-less c.args.self.now.seen c.args.lan c.args.member c.facts.ensures.ends c.requires.on

pub sweeper-requires-clause-member : goal.sweeper-requires-clause-member
sweeper-requires-clause-member g c = member-less c.args.self.now.seen c.args.lan c.args.member c.facts.ensures.ends c.requires.on
