use Rattle.std.proofs.Common.{List, ℕ, subst, sym}
use Rattle.std.specs.List.{Contains}
use Rattle.spf_tree.specs.Distances.{cost_at}
use Rattle.spf_tree.specs.Labels.{at}
use Rattle.spf_tree.proofs.ReachLemmas.{nodes_least}
use Rattle.spf_tree.proofs.table.table_from.Goals as goal

pub pairs-requires-clause-least : goal.pairs-requires-clause-least
pairs-requires-clause-least c =
    nodes_least c.args.rows.now.rows c.args.root c.args.rows.now.nodes (cost_at c.args.distances.now) (at c.in-Ok.labels) c.requires.root c.kept.ensures c.in-Ok.ensures.from
    (λ n h. c.in-Ok.ensures.into n (subst (λ (ns : List ℕ). Contains ns n) (sym c.nodes.ensures) h)) c.requires.distances.least
