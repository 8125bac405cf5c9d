-- By computation.
use Rattle.std.proofs.Common.{refl}
use Rattle.model_router.specs.Maps.{each}
use Rattle.model_router.specs.Sets.{has, with_one, without}
use Rattle.model_router.specs.Openings.{close, open_up}
use Rattle.model_router.proofs.rows.opening_rows.Goals as goal

pub returns-clause-closed : goal.returns-clause-closed
unfolding each has with_one without close open_up
returns-clause-closed c = refl

pub returns-clause-opened : goal.returns-clause-opened
unfolding each has with_one without close open_up
returns-clause-opened c = refl

pub returns-clause-lan : goal.returns-clause-lan
unfolding each has with_one without close open_up
returns-clause-lan c = refl

pub returns-clause-empty : goal.returns-clause-empty
unfolding each has with_one without close open_up
returns-clause-empty c = refl
