-- By computation.
use Rattle.std.proofs.Common.{refl}
use Rattle.model_router.proofs.rows.range_rows.Goals as goal

pub returns-clause-listed : goal.returns-clause-listed
returns-clause-listed c = refl

pub returns-clause-empty : goal.returns-clause-empty
returns-clause-empty c = refl

pub returns-clause-missed : goal.returns-clause-missed
returns-clause-missed c = refl

pub returns-clause-before : goal.returns-clause-before
returns-clause-before c = refl

pub returns-clause-behind : goal.returns-clause-behind
returns-clause-behind c = refl

pub returns-clause-named : goal.returns-clause-named
returns-clause-named c = refl

pub returns-clause-purge : goal.returns-clause-purge
returns-clause-purge c = refl
