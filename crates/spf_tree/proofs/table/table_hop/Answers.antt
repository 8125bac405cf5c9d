use Rattle.std.proofs.Common.{◌∙◌, ◌++◌, ℕ, List, map, ap, sym}
use Rattle.spf_tree.specs.Exploring.{beside}
use Rattle.spf_tree.proofs.TableLemmas.{tabled}
use Rattle.spf_tree.proofs.table.table_hop.Goals as goal

pub returns-in-Ok-add_reached : goal.returns-in-Ok-add_reached
returns-in-Ok-add_reached c =
    tabled c.args.indexed.now.rows c.args.root c.args.labels.now c.args.hop c.args.table.now.items c.add_reached.new.table.items c.in-Ok.reached.items c.if-hop-root.false (sym c.is_system.ensures ∙ c.if-not-is_system.false) c.in-Ok.ensures
    (c.in-Ok-add_reached.ensures ∙ ap (λ (ns : List ℕ). c.args.table.now.items ++ map (beside c.args.hop) ns) c.as_slice.ensures.value)
