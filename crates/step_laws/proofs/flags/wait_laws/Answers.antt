-- The seconds that a circuit's flag waits, by the words that made them.
use Rattle.step_laws.proofs.FlagWaits.{no-wait, due-wait, five-wait, fallen-wait}
use Rattle.step_laws.proofs.flags.wait_laws.Goals as goal

pub returns-clause-none : goal.returns-clause-none
returns-clause-none c = no-wait

pub returns-clause-due : goal.returns-clause-due
returns-clause-due c = due-wait

pub returns-clause-five : goal.returns-clause-five
returns-clause-five c = five-wait

pub returns-clause-fallen : goal.returns-clause-fallen
returns-clause-fallen c = fallen-wait
