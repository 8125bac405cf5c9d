use Rattle.std.proofs.Common.{◌∙◌, ap, arith, refl}
use Rattle.spf_tree.specs.Nodes.{is_system}
use Rattle.spf_tree.proofs.NodeLemmas.{system_by}
use Rattle.route_table.proofs.hops.node_of.Goals as goal

pub returns-clause-system : goal.returns-clause-system
returns-clause-system c = ap is_system c.number.ensures ∙ system_by _ (omega arith) refl
