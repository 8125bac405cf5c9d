use Rattle.std.proofs.Common.{◌∙◌}
use Rattle.adjacency.proofs.PressLemmas.{ended-where_kept}
use Rattle.adjacency.proofs.by_snpa.age.Goals as goal

pub returns-clause-over : goal.returns-clause-over
returns-clause-over c =
    let front = rw c.deref_mut.ensures.value at c.press-kept.ensures.front in
    ended-where_kept c.args.list.now.items _ c.press-kept.result c.len-len.result front c.press-kept.ensures.within (c.len-len.ensures ∙ c.args.list.now.ok.0)
