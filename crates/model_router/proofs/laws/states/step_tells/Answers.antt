-- Where new LSPs come from, and what the count of changes tells.
use Rattle.model_router.specs.Routers.{level_of}
use Rattle.model_router.specs.Steps.{step}
use Rattle.model_router.specs.Hearings.{hearing}
use Rattle.model_router.proofs.StepWays.{step-course}
use Rattle.model_router.proofs.TellLemmas.{course-tells}
use Rattle.model_router.proofs.laws.states.step_tells.Goals as goal

pub returns : goal.returns
returns c given r event = record { on = λ level. course-tells (hearing given r event level) (level_of r level) (level_of (step given r event).router level) ((step-course given r event).on level) }
