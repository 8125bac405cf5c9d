-- A set of circuits has a circuit exactly as the words that made it say.
use Rattle.model_router.proofs.SetLemmas.{has-with_one, has-without, has-only, has-none}
use Rattle.model_router.proofs.laws.flooding.set_laws.Goals as goal

pub returns-clause-with_one : goal.returns-clause-with_one
returns-clause-with_one c = has-with_one

pub returns-clause-without : goal.returns-clause-without
returns-clause-without c = has-without

pub returns-clause-only : goal.returns-clause-only
returns-clause-only c = has-only

pub returns-clause-none : goal.returns-clause-none
returns-clause-none c = has-none
