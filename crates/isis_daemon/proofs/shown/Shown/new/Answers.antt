use Rattle.std.proofs.Common.{arith}
use Rattle.isis_daemon.proofs.ShowLemmas.{lines-few}
use Rattle.isis_daemon.proofs.shown.Shown.new.Goals as goal

pub invariant_of-result : goal.invariant_of-result
invariant_of-result c = record { few = omega (arith, lines-few c.args.input.now, c.requires) }
