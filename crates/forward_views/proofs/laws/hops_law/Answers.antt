use Rattle.forward_views.proofs.AgreeLemmas.{hops}
use Rattle.forward_views.proofs.laws.hops_law.Goals as goal

pub returns : goal.returns
returns c looks look route hop alike there listed among = hops looks alike look route hop there listed among
