-- What a step does to ranks and to the flags of point-to-point circuits.
use Rattle.model_router.proofs.StepLemmas.{rank-stays, flag-stays, rise-is-flagged, opening-is-flagged}
use Rattle.model_router.proofs.laws.flooding.step_flags.Goals as goal

pub returns-clause-rank : goal.returns-clause-rank
returns-clause-rank c = rank-stays

pub returns-clause-flag : goal.returns-clause-flag
returns-clause-flag c = flag-stays

pub returns-clause-rise : goal.returns-clause-rise
returns-clause-rise c = rise-is-flagged

pub returns-clause-opening : goal.returns-clause-opening
returns-clause-opening c = opening-is-flagged
