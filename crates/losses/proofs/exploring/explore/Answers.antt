use Rattle.losses.proofs.PartLemmas.{all-counted, whole-worst, rest-cause}
use Rattle.losses.proofs.exploring.explore.Goals as goal

pub returns-in-Ok-lose_each-clause-counted : goal.returns-in-Ok-lose_each-clause-counted
returns-in-Ok-lose_each-clause-counted g c tree p =
    all-counted tree c.args.wanted c.args.part.of c.args.part.number c.args.most c.new-tally.result c.begin.new.tally c.lose_each.new.tally
    c.new-tally.ensures (c.in-Ok.ensures.counted tree p) (c.in-Ok-lose_each.ensures.counted tree p)

pub returns-in-Ok-lose_each-clause-worst : goal.returns-in-Ok-lose_each-clause-worst
returns-in-Ok-lose_each-clause-worst g c z o tree p =
    whole-worst tree c.args.wanted c.args.part.of c.args.part.number c.args.most c.lose_each.new.tally z o
    (all-counted tree c.args.wanted c.args.part.of c.args.part.number c.args.most c.new-tally.result c.begin.new.tally c.lose_each.new.tally
    c.new-tally.ensures (c.in-Ok.ensures.counted tree p) (c.in-Ok-lose_each.ensures.counted tree p))

pub returns-in-Err-lose_each-clause-cause : goal.returns-in-Err-lose_each-clause-cause
returns-in-Err-lose_each-clause-cause g c tree p =
    rest-cause tree c.args.wanted c.args.part.of c.args.part.number c.args.most c.new-tally.result c.begin.new.tally (g.P.Player.meets c.args.player.now) c.in-Err-lose_each.fault
    c.new-tally.ensures (c.in-Ok.ensures.counted tree p) (c.in-Err-lose_each.ensures.cause tree p)
