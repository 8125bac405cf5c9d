-- By computation.
use Rattle.std.proofs.Common.{refl}
use Rattle.model_router.specs.Cells.{header_of}
use Rattle.model_router.proofs.rows.age_rows.Goals as goal

pub returns-clause-later : goal.returns-clause-later
unfolding header_of
returns-clause-later c = refl

pub returns-clause-purged : goal.returns-clause-purged
unfolding header_of
returns-clause-purged c = refl

pub returns-clause-erased : goal.returns-clause-erased
unfolding header_of
returns-clause-erased c = refl

pub returns-clause-empty : goal.returns-clause-empty
unfolding header_of
returns-clause-empty c = refl

pub returns-clause-kept : goal.returns-clause-kept
unfolding header_of
returns-clause-kept c = refl

pub returns-clause-gone : goal.returns-clause-gone
unfolding header_of
returns-clause-gone c = refl

pub returns-clause-nothing : goal.returns-clause-nothing
unfolding header_of
returns-clause-nothing c = refl
