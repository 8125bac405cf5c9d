-- The LSPs that are wanted are of one's own system, and may be issued.
use Rattle.model_router.proofs.WantedLemmas.{wanted-own}
use Rattle.model_router.proofs.OwnLemmas.{wanted-issuable}
use Rattle.model_router.proofs.laws.states.wanted_own.Goals as goal

pub returns-clause-own : goal.returns-clause-own
returns-clause-own c = wanted-own

pub returns-clause-issuable : goal.returns-clause-issuable
returns-clause-issuable c given before r level telling = wanted-issuable given before r level telling.areas telling.circuits
