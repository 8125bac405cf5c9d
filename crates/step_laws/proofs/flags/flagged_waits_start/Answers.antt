-- At a router's start what waits is flagged.
use Rattle.step_laws.proofs.FlagWaits.{start-flagged}
use Rattle.step_laws.proofs.flags.flagged_waits_start.Goals as goal

pub returns : goal.returns
returns c = start-flagged
