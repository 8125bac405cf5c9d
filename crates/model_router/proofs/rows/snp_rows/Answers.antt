-- By computation.
use Rattle.std.proofs.Common.{refl}
use Rattle.model_router.specs.Maps.{put, erase}
use Rattle.model_router.specs.Sets.{has, with_one, without}
use Rattle.model_router.specs.Books.{set_cell}
use Rattle.model_router.specs.SnpTable.{snp_case, hear_entry}
use Rattle.model_router.proofs.rows.snp_rows.Goals as goal

pub returns-clause-same : goal.returns-clause-same
unfolding put erase has with_one without set_cell snp_case hear_entry
returns-clause-same c = refl

pub returns-clause-same_lan : goal.returns-clause-same_lan
unfolding put erase has with_one without set_cell snp_case hear_entry
returns-clause-same_lan c = refl

pub returns-clause-newer : goal.returns-clause-newer
unfolding put erase has with_one without set_cell snp_case hear_entry
returns-clause-newer c = refl

pub returns-clause-older : goal.returns-clause-older
unfolding put erase has with_one without set_cell snp_case hear_entry
returns-clause-older c = refl

pub returns-clause-asked : goal.returns-clause-asked
unfolding put erase has with_one without set_cell snp_case hear_entry
returns-clause-asked c = refl

pub returns-clause-unasked : goal.returns-clause-unasked
unfolding put erase has with_one without set_cell snp_case hear_entry
returns-clause-unasked c = refl

pub returns-clause-full : goal.returns-clause-full
unfolding put erase has with_one without set_cell snp_case hear_entry
returns-clause-full c = refl
