use Rattle.std.proofs.Common.{◌≡◌, ◌∙◌, Some, slice_get, sym, ap}
use Rattle.std.specs.Option.{option_map}
use Rattle.spf_tree.specs.Nodes.{system_node}
use Rattle.capture_text.proofs.BackupLemmas.{got, hop-more}
use Rattle.capture_text.proofs.backups.add_hops.Goals as goal

pub loop-place-preserved : goal.loop-place-preserved
loop-place-preserved c =
    let hops = c.args.hops.now in
    let place = c.loop-place.place in
    let hop = system_node c.in-Some.hop in
    let here : slice_get hops place ≡ Some hop = sym c.get.ensures ∙ ap (option_map system_node) c.in-Some.is in
    let found = got hops place hop here in
    record {
      prepared = c.backup_of.ensures.prepared;
      added = hop-more c.args.graph.now (system_node c.args.target) hops place c.args.list.now.items c.loop-place.list.items c.push.new.self.items c.in-Ok.backup found.0 (c.in-Ok.ensures.hop ∙ sym found.1) c.in-Ok.ensures.told c.in-Ok-push.ensures.items c.loop-place.invariant.added;
    }
