use Rattle.designated_is.proofs.BestLemmas.{elected_one, elected_model}
use Rattle.designated_is.proofs.laws.election_laws.Goals as goal

pub returns-clause-one : goal.returns-clause-one
returns-clause-one c = elected_one

pub returns-clause-model : goal.returns-clause-model
returns-clause-model c = elected_model
