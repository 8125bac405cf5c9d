use Rattle.spf_repair.proofs.ReplaceLemmas.{no_times}
use Rattle.spf_repair.proofs.replace.find.Goals as goal

pub returns : goal.returns
returns c = no_times c.args.rows.now c.args.row.now c.loop-place.place c.loop-place-test.false c.loop-place.invariant
