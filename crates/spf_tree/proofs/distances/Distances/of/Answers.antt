use Rattle.spf_tree.proofs.DistanceLemmas.{cost_is, nodes_rise}
use Rattle.spf_tree.proofs.distances.Distances.of.Goals as goal

pub returns-clause-same : goal.returns-clause-same
returns-clause-same c = cost_is c.args.labels c.rising.ensures

pub returns-clause-rising : goal.returns-clause-rising
returns-clause-rising c = nodes_rise c.args.labels c.rising.ensures
