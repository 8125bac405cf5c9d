-- By computation.
use Rattle.std.proofs.Common.{refl}
use Rattle.model_router.proofs.rows.issue_rows.Goals as goal

pub returns-clause-first : goal.returns-clause-first
returns-clause-first c = refl

pub returns-clause-same : goal.returns-clause-same
returns-clause-same c = refl

pub returns-clause-old : goal.returns-clause-old
returns-clause-old c = refl

pub returns-clause-changed_early : goal.returns-clause-changed_early
returns-clause-changed_early c = refl

pub returns-clause-changed : goal.returns-clause-changed
returns-clause-changed c = refl

pub returns-clause-number : goal.returns-clause-number
returns-clause-number c = refl

pub returns-clause-number_one : goal.returns-clause-number_one
returns-clause-number_one c = refl

pub returns-clause-exhausted : goal.returns-clause-exhausted
returns-clause-exhausted c = refl

pub returns-clause-full : goal.returns-clause-full
returns-clause-full c = refl
