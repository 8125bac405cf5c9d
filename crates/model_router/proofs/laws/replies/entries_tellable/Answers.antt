-- What is said of an entry of a good router may be listed.
use Rattle.std.proofs.Common.{subst}
use Rattle.model_router.specs.Good.{IsGood}
use Rattle.model_router.proofs.FineLemmas.{cell-tellable}
use Rattle.model_router.proofs.laws.replies.entries_tellable.Goals as goal

pub returns : goal.returns
returns c r level id cell good e = cell-tellable id cell (subst (IsGood id) e ((good.on level).at id))
