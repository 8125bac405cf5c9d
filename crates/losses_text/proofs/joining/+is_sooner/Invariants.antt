use Rattle.std.proofs.Common.{length}
use Rattle.losses_text.proofs.joining.+is_sooner.Given as goal

abbrev pub decreases-is_sooner : goal.decreases-is_sooner
decreases-is_sooner l = length l.lost.now
