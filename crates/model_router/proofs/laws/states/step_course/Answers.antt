-- A step is a course of both levels.
use Rattle.model_router.proofs.StepWays.{step-course}
use Rattle.model_router.proofs.laws.states.step_course.Goals as goal

pub returns : goal.returns
returns c = step-course
