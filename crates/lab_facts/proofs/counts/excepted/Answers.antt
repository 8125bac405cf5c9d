use Rattle.std.proofs.Common.{arith}
use Rattle.lab_facts.proofs.CellLemmas.{few_ids, both_listed}
use Rattle.lab_facts.proofs.counts.excepted.Goals as goal

pub overflow_add-result-2 : goal.overflow_add-result-2
overflow_add-result-2 c =
    let a = few_ids c.args.gone.now c.in-Some.ids.now c.few_law.ensures c.in-Some.ensures in
    let b = few_ids c.args.other_gone.now c.in-Some-list.other_ids.now c.few_law-2.ensures c.in-Some-list.ensures in
    omega (arith, a, b, c.listed_beyond.ensures.few)

pub returns : goal.returns
returns c = both_listed c.args.gone.now c.args.other_gone.now c.in-Some.ids.now c.in-Some-list.other_ids.now _ _ c.listed_beyond.result c.in-Some.ensures c.in-Some-list.ensures (c.listed_beyond.ensures.count _ c.in-Some.ensures)
