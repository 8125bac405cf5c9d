-- By computation.
use Rattle.std.proofs.Common.{refl}
use Rattle.model_router.specs.Sets.{with_one, without}
use Rattle.model_router.specs.Waits.{fallen}
use Rattle.model_router.proofs.rows.wait_rows.Goals as goal

pub returns-clause-five : goal.returns-clause-five
unfolding with_one without fallen
returns-clause-five c = refl

pub returns-clause-four : goal.returns-clause-four
unfolding with_one without fallen
returns-clause-four c = refl

pub returns-clause-three : goal.returns-clause-three
unfolding with_one without fallen
returns-clause-three c = refl

pub returns-clause-others : goal.returns-clause-others
unfolding with_one without fallen
returns-clause-others c = refl
