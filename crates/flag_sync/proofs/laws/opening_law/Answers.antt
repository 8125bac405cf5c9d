use Rattle.std.proofs.Common.{refl}
use Rattle.model_router.specs.Openings.{mark_all, open_up}
use Rattle.flag_sync.proofs.laws.opening_law.Goals as goal

pub returns : goal.returns
unfolding mark_all open_up
returns c book place point = rw point refl
