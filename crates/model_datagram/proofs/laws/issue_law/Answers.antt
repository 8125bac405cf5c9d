-- What is issued tells itself.
use Rattle.model_datagram.proofs.IssueLemmas.{issue-tells, given-good}
use Rattle.model_datagram.proofs.laws.issue_law.Goals as goal

pub returns-clause-tells : goal.returns-clause-tells
returns-clause-tells c = issue-tells

pub returns-clause-good : goal.returns-clause-good
returns-clause-good c = given-good
