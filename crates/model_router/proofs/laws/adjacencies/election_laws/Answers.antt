-- Who is elected is the greatest.
use Rattle.model_router.proofs.ElectionLemmas.{elected, nobody, somebody, same-rank}
use Rattle.model_router.proofs.laws.adjacencies.election_laws.Goals as goal

pub returns-clause-elected : goal.returns-clause-elected
returns-clause-elected c = elected

pub returns-clause-nobody : goal.returns-clause-nobody
returns-clause-nobody c = nobody

pub returns-clause-somebody : goal.returns-clause-somebody
returns-clause-somebody c = somebody

pub returns-clause-one : goal.returns-clause-one
returns-clause-one c = same-rank
