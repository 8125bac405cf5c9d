use Rattle.std.proofs.Common.{subst}
use Rattle.isis_base.specs.declared.identifiers.NodeId.{NodeId}
use Rattle.capture_text.specs.SoFar.{AreHops}
use Rattle.capture_text.proofs.backups.table_of.Goals as goal

pub returns-in-Ok-all_next_hops : goal.returns-in-Ok-all_next_hops
returns-in-Ok-all_next_hops c =
    subst (λ (root : NodeId). AreHops (record { rows = c.args.graph.now.rows; root = root }) c.in-Ok-all_next_hops.table) c.root-root.ensures c.in-Ok-all_next_hops.ensures
