use Rattle.std.proofs.Common.{◌∙◌, ap, arith}
use Rattle.spf_tree.specs.Nodes.{is_system}
use Rattle.spf_tree.proofs.NodeLemmas.{system_by}
use Rattle.spf_tree.proofs.node.target_number.Goals as goal

pub returns-clause-system : goal.returns-clause-system
returns-clause-system c = ap is_system c.number.ensures ∙ system_by c.args.node (omega arith) c.requires
