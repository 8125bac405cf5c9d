-- What waits is flagged, before and after a step.
use Rattle.step_laws.proofs.FlagWaits.{step-flagged}
use Rattle.step_laws.proofs.flags.flagged_waits_step.Goals as goal

pub returns : goal.returns
returns c = step-flagged
