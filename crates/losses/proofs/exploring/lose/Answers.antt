use Rattle.std.proofs.Common.{sym, ◌∙◌}
use Rattle.losses.proofs.TreeLemmas.{lost-cause}
use Rattle.losses.proofs.exploring.lose.Goals as goal

pub returns-in-Err-follow-clause-cause : goal.returns-in-Err-follow-clause-cause
returns-in-Err-follow-clause-cause g c tree p =
    lost-cause (g.P.Player.meets c.args.player.now) c.args.part.of c.args.part.number c.args.place tree c.args.most c.args.tally.now.schedules c.args.fates.now.items c.put.new.fates.items
    c.in-Err-follow.fault (sym c.has.ensures ∙ c.if-not-has.false) c.in-Ok.ensures.put c.requires.most (c.in-Err-follow.ensures.cause tree p)
