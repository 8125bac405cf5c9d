use Rattle.forward_views.proofs.ReachedLemmas.{reached}
use Rattle.forward_views.proofs.laws.forward_law.Goals as goal

pub returns : goal.returns
returns c looks prefix owner from route moves to alike is there of_route are = reached looks alike prefix owner is from route moves to there of_route are
