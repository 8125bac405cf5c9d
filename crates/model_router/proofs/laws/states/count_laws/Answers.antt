-- Each cause has a counter of its own, which rises to its type's end.
use Rattle.model_router.proofs.DropLemmas.{counted-cause, counted-others, place-below}
use Rattle.model_router.proofs.laws.states.count_laws.Goals as goal

pub returns-clause-counted : goal.returns-clause-counted
returns-clause-counted c = counted-cause

pub returns-clause-others : goal.returns-clause-others
returns-clause-others c = counted-others

pub returns-clause-places : goal.returns-clause-places
returns-clause-places c = place-below
