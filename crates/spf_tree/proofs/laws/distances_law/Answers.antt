use Rattle.spf_tree.proofs.DistanceLemmas.{one_distances}
use Rattle.spf_tree.proofs.laws.distances_law.Goals as goal

pub returns : goal.returns
returns c = one_distances
