-- Flags stand on open circuits alone, before and after a step.
use Rattle.step_laws.proofs.FlagSets.{step-open}
use Rattle.step_laws.proofs.flags.open_flags_step.Goals as goal

pub returns : goal.returns
returns c = step-open
