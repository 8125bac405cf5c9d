use Rattle.forward_views.proofs.AgreeLemmas.{do-agree}
use Rattle.forward_views.proofs.laws.agree_law.Goals as goal

pub returns : goal.returns
returns c looks prefix owner alike is = do-agree looks alike prefix owner is
