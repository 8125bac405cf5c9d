-- At a router's start flags stand on open circuits alone.
use Rattle.step_laws.proofs.FlagSets.{start-open}
use Rattle.step_laws.proofs.flags.open_flags_start.Goals as goal

pub returns : goal.returns
returns c = start-open
