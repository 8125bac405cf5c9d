use Rattle.losses.proofs.TreeLemmas.{first-counted}
use Rattle.losses.proofs.exploring.begin.Goals as goal

pub returns-in-Ok-add-clause-counted : goal.returns-in-Ok-add-clause-counted
returns-in-Ok-add-clause-counted g c tree p =
    first-counted tree c.args.wanted c.args.part.number c.in-Ok.played.cost c.args.tally.now c.add.new.self c.if-part-ne0.false (c.in-Ok.ensures.cost tree p) c.in-Ok-add.ensures.added
