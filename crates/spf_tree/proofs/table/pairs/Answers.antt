use Rattle.std.proofs.Common.{List, subst, ℕ}
use Rattle.spf_tree.specs.Exploring.{AreTabled}
use Rattle.spf_tree.proofs.TableLemmas.{next_table, all_hops_systems}
use Rattle.spf_tree.proofs.table.pairs.Goals as goal

pub returns-in-Ok-table_all-clause-hops : goal.returns-in-Ok-table_all-clause-hops
returns-in-Ok-table_all-clause-hops c =
    let tabled : AreTabled c.args.indexed.now.rows c.args.root c.args.labels.now c.in-Ok.plain.items c.in-Ok-table_all.table.items =
    subst (λ (ns : List ℕ). AreTabled c.args.indexed.now.rows c.args.root c.args.labels.now ns c.in-Ok-table_all.table.items) c.as_slice.ensures.value c.in-Ok-table_all.ensures in
    next_table c.args.indexed.now.rows c.args.root c.args.labels.now c.in-Ok.plain.items c.in-Ok-table_all.table.items c.pairs_in_order.result.items c.requires.least c.in-Ok.ensures tabled c.pairs_in_order.ensures.all c.pairs_in_order.ensures.none

pub returns-in-Ok-table_all-clause-table : goal.returns-in-Ok-table_all-clause-table
returns-in-Ok-table_all-clause-table c =
    let tabled : AreTabled c.args.indexed.now.rows c.args.root c.args.labels.now c.in-Ok.plain.items c.in-Ok-table_all.table.items =
    subst (λ (ns : List ℕ). AreTabled c.args.indexed.now.rows c.args.root c.args.labels.now ns c.in-Ok-table_all.table.items) c.as_slice.ensures.value c.in-Ok-table_all.ensures in
    record { rising = c.pairs_in_order.ensures.rising; systems = all_hops_systems c.args.indexed.now.rows c.args.root c.args.labels.now c.in-Ok.plain.items c.in-Ok-table_all.table.items c.pairs_in_order.result.items tabled c.pairs_in_order.ensures.none }
