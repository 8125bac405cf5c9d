-- A router's cells are by LSP ID before and after a step.
use Rattle.model_router.proofs.StepWays.{step-course}
use Rattle.model_router.proofs.RisingLemmas.{course-rises}
use Rattle.model_router.proofs.laws.states.step_sorted.Goals as goal

pub returns : goal.returns
returns c given r event sorted = record { on = λ level. course-rises _ _ _ ((step-course given r event).on level) (sorted.on level) }
