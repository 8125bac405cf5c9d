use Rattle.losses.proofs.OrderLemmas.{are-joined}
use Rattle.losses.proofs.JoinLemmas.{are-parts}
use Rattle.losses.proofs.laws.part_laws.Goals as goal

pub returns-clause-parts : goal.returns-clause-parts
returns-clause-parts c = are-parts

pub returns-clause-joined : goal.returns-clause-joined
returns-clause-joined c = are-joined
