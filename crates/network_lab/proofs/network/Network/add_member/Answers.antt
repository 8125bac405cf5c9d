use Rattle.std.proofs.Common.{length, ◌<◌, List}
use Rattle.model_router.specs.Places.{nth}
use Rattle.model_network.specs.declared.end.End.{End}
use Rattle.network_lab.proofs.PlaceLemmas.{of-place}
use Rattle.network_lab.proofs.LanLemmas.{end-less}
use Rattle.network_lab.proofs.network.Network.add_member.Goals as goal

pub sweeper-requires-clause-member : goal.sweeper-requires-clause-member
sweeper-requires-clause-member g c =
    end-less c.args.self.now.seen.routers c.ends.result.now c.args.place _ (c.facts.ensures.ends c.args.link c.ends.result.now c.ends.ensures)
    (of-place (λ (ends : List End). c.args.place < length ends) (nth c.args.self.now.seen.links c.args.link) c.ends.result.now c.ends.ensures c.requires.place)
