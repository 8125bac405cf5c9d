use Rattle.std.proofs.Common.{[], ℕ, List, take, sym, subst, arith}
use Rattle.std.proofs.lemmas.List.{take_more, take_all}
use Rattle.isis_base.specs.declared.identifiers.NodeId.{NodeId}
use Rattle.alternates.specs.Sides.{ArePrepared}
use Rattle.spf_tree.specs.Nodes.{node_number}
use Rattle.capture_text.specs.declared.backup.Backup.{Backup}
use Rattle.capture_text.specs.SoFar.{AreSoFar}
use Rattle.capture_text.proofs.BackupLemmas.{none-yet, all-below, all-backups}
use Rattle.capture_text.proofs.backups.all_backups.Goals as goal

pub loop-place-init : goal.loop-place-init
loop-place-init c = record {
  prepared = subst (λ (root : NodeId). ArePrepared c.args.graph.now.rows (node_number root) c.in-Ok-new.sides) c.root.ensures c.in-Ok-new.ensures;
  so_far = subst (λ (list : List Backup). AreSoFar c.args.graph.now [] list) (sym c.new-list.ensures.items) (none-yet c.args.graph.now []);
}

pub loop-place-preserved : goal.loop-place-preserved
loop-place-preserved c =
    let nodes = c.nodes_in_order-nodes.result.now in
    let place = c.loop-place.place in
    record {
      prepared = c.in-Ok-add_target.ensures.prepared;
      so_far =
          subst (λ (front : List ℕ). AreSoFar c.args.graph.now front c.add_target.new.list.items) (sym (take_more nodes place 0 c.loop-place-test.true))
          (c.in-Ok-add_target.ensures.list (take place nodes) c.loop-place.invariant.so_far (all-below nodes place c.nodes_in_order-nodes.ensures.rising c.loop-place-test.true));
    }

pub returns : goal.returns
returns c =
    let nodes = c.nodes_in_order-nodes.result.now in
    all-backups c.args.graph.now nodes c.loop-place.list.items c.nodes_in_order-nodes.ensures.ends
    (subst (λ (front : List ℕ). AreSoFar c.args.graph.now front c.loop-place.list.items) (take_all c.loop-place.place nodes (omega (arith, c.loop-place-test.false))) c.loop-place.invariant.so_far)
