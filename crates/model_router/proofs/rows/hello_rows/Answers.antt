-- By computation.
use Rattle.std.proofs.Common.{refl}
use Rattle.model_router.proofs.rows.hello_rows.Goals as goal

pub returns-clause-good : goal.returns-clause-good
returns-clause-good c = refl

pub returns-clause-own_id : goal.returns-clause-own_id
returns-clause-own_id c = refl

pub returns-clause-other_snpa : goal.returns-clause-other_snpa
returns-clause-other_snpa c = refl

pub returns-clause-no_level : goal.returns-clause-no_level
returns-clause-no_level c = refl

pub returns-clause-no_area : goal.returns-clause-no_area
returns-clause-no_area c = refl

pub returns-clause-no_three_way : goal.returns-clause-no_three_way
returns-clause-no_three_way c = refl

pub returns-clause-other_system : goal.returns-clause-other_system
returns-clause-other_system c = refl

pub returns-clause-other_boot : goal.returns-clause-other_boot
returns-clause-other_boot c = refl

pub returns-clause-own_before_snpa : goal.returns-clause-own_before_snpa
returns-clause-own_before_snpa c = refl

pub returns-clause-old_boot : goal.returns-clause-old_boot
returns-clause-old_boot c = refl

pub returns-clause-old_first : goal.returns-clause-old_first
returns-clause-old_first c = refl

pub returns-clause-same_boot : goal.returns-clause-same_boot
returns-clause-same_boot c = refl
