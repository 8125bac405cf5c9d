use Rattle.lab_script.proofs.LabIndexLemmas.{count-turn, there-turn, few-turn}
use Rattle.lab_script.proofs.lab_links.count_all.Goals as goal

pub loop-router-preserved : goal.loop-router-preserved
loop-router-preserved c =
    let routers = c.args.routers.now in
    let i = c.loop-router.router-index in
    let old = c.loop-router.counts.items in
    let new = c.count_one.new.counts.items in
    let inv = c.loop-router.invariant in
    record {
      counted = count-turn c.args.counts.now.items old new routers i c.loop-router-test.true c.count_one.ensures inv.there inv.counted;
      there = there-turn old new routers i c.loop-router-test.true c.count_one.ensures inv.there;
      few = few-turn old new routers i c.loop-router-test.true c.count_one.ensures inv.there inv.few;
    }
