use Rattle.ipv6_reach.proofs.NumberLemmas6.{numbered_as, stands_more, up_to_all}
use Rattle.ipv6_reach.proofs.numbered.number_all.Goals as goal

pub loop-k-preserved : goal.loop-k-preserved
loop-k-preserved c =
    let cs = c.args.candidates.now in
    let k = c.loop-k.k in
    let x = c.index-candidates-k.result in
    let s = c.stand_for.result in
    let stand = c.stand_for.ensures in
    let new = c.add_name.new.names.items in
    record {
      names = c.in-Ok.ensures.names;
      stands =
          rw c.in-Ok-push.ensures.items
          (stands_more c.loop-k.names.items new cs k c.loop-k.stands.items x s c.loop-k-test.true c.index-candidates-k.is c.in-Ok.ensures.grown c.loop-k.invariant.stands
          (numbered_as new x s c.in-Ok.place c.in-Ok.ensures.at stand.address stand.long stand.rank stand.cost stand.origin));
      up_to = up_to_all new cs k x c.requires c.loop-k-test.true c.index-candidates-k.is c.in-Ok.ensures.up_to;
    }
