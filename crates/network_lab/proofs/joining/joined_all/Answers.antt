use Rattle.std.proofs.Common.{◌<◌, length}
use Rattle.network_lab.specs.LabNets.{new_circuit}
use Rattle.network_lab.specs.Joining.{IsJoined}
use Rattle.network_lab.proofs.JoinLemmas.{all-behind, joined-turn, rest-room, all-rest-of}
use Rattle.network_lab.proofs.joining.joined_all.Goals as goal

pub loop-left-preserved : goal.loop-left-preserved
loop-left-preserved g c =
    let left = c.loop-left.left.now in
    let more = c.in-Ok.ensures in
    record {
      joined = all-behind (IsJoined c.args.configs.now c.args.ports.now c.args.link (new_circuit c.args.kind c.args.metric)) c.loop-left.list.items c.join.new.list.items more.joined more.added c.loop-left.invariant.joined more.holds;
      routers = joined-turn c.loop-left.list.items c.join.new.list.items left c.args.members.now 0 more.joined c.in-len1-up.len_at_least more.router more.added c.loop-left.invariant.routers;
      there = all-rest-of (λ i. i < length c.args.configs.now) left 0 c.in-len1-up.len_at_least c.loop-left.invariant.there;
      room = rest-room c.args.configs.now left 0 c.in-len1-up.len_at_least c.loop-left.invariant.room;
    }
