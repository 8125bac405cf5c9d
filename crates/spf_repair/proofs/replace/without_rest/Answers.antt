use Rattle.std.proofs.Common.{◌<◌, ◌^◌, arith}
use Rattle.std.proofs.lemmas.List.Sorted.{All-permutation, length_permutation}
use Rattle.spf_tree.specs.declared.row.Row.{Row}
use Rattle.spf_repair.proofs.ReplaceLemmas.{moved_times}
use Rattle.spf_repair.proofs.replace.without_rest.Goals as goal

pub returns-clause-times : goal.returns-clause-times
returns-clause-times c = λ x.
    let moved = moved_times c.take_each.new.rows.items c.by_start.result.items x c.by_start.ensures.moved in
    let taken = c.take_each.ensures.times x in
    omega arith

pub returns-clause-len : goal.returns-clause-len
returns-clause-len c =
    let moved = length_permutation c.take_each.new.rows.items c.by_start.result.items c.by_start.ensures.moved in
    let taken = c.take_each.ensures.len in
    omega arith

pub returns-clause-small : goal.returns-clause-small
returns-clause-small c = λ h. All-permutation (λ (r : Row). r.metric < 2 ^ 32) c.take_each.new.rows.items c.by_start.result.items c.by_start.ensures.moved (c.take_each.ensures.small h)
