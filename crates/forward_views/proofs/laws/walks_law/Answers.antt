use Rattle.forward_views.proofs.WalkedLemmas.{walks}
use Rattle.forward_views.proofs.laws.walks_law.Goals as goal

pub returns : goal.returns
returns c = walks
