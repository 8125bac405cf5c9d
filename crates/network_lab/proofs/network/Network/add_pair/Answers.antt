use Rattle.std.proofs.Common.{None, Some, sym, append-nil}
use Rattle.model_router.specs.Places.{nth}
use Rattle.network_lab.proofs.LanLemmas.{pair-more}
use Rattle.network_lab.proofs.network.Network.add_pair.Goals as goal

pub returns-in_ok-push-in-Some : goal.returns-in_ok-push-in-Some
returns-in_ok-push-in-Some g c =
    pair-more c.args.self.now.seen c.args.level (nth c.args.self.now.seen.links c.args.link) c.joined_by.result (Some c.in-Some.pair) c.args.pairs.now.items c.push.new.self.items c.joined_by.ensures c.in-Some.is c.in_ok-push-in-Some.ensures.items

pub returns-in-None : goal.returns-in-None
returns-in-None g c =
    pair-more c.args.self.now.seen c.args.level (nth c.args.self.now.seen.links c.args.link) c.joined_by.result None c.args.pairs.now.items c.args.pairs.now.items c.joined_by.ensures c.in-None.is (sym (append-nil c.args.pairs.now.items))
