use Rattle.isis_base.proofs.KeyLemmas.{join-comm}
use Rattle.isis_base.proofs.laws.join_laws.Goals as goal

pub returns-clause-commutative : goal.returns-clause-commutative
returns-clause-commutative c = join-comm
