-- A datagram is dropped where a test refuses it, and then its cause's counter alone changes.
use Rattle.model_router.proofs.DropLemmas.{step-refused, step-unchanged}
use Rattle.model_router.proofs.laws.states.step_drops.Goals as goal

pub returns-clause-refused : goal.returns-clause-refused
returns-clause-refused c = step-refused

pub returns-clause-unchanged : goal.returns-clause-unchanged
returns-clause-unchanged c = step-unchanged
