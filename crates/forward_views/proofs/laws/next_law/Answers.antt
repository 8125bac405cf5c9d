use Rattle.forward_views.proofs.WalkedLemmas.{goes_on}
use Rattle.forward_views.proofs.laws.next_law.Goals as goal

pub returns : goal.returns
returns c = goes_on
