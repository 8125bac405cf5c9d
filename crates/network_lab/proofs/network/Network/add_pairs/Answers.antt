use Rattle.network_lab.proofs.LanLemmas.{pairs-ok}
use Rattle.network_lab.proofs.network.Network.add_pairs.Goals as goal

pub returns-in-Ok : goal.returns-in-Ok
returns-in-Ok g c =
    pairs-ok c.add_swept.result c.args.self.now.seen c.args.level c.args.link c.args.pairs.now.items c.add_pair.new.pairs.items c.add_swept.new.pairs.items c.requires c.in-Ok.ensures c.add_swept.ensures
