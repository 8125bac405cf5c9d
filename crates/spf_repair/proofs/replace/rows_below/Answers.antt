use Rattle.std.proofs.Common.{◌≤◌, get_or, arith}
use Rattle.spf_tree.specs.Walks.{start}
use Rattle.spf_tree.proofs.SearchLemmas.{no_row}
use Rattle.spf_repair.proofs.ReplaceLemmas.{from_first}
use Rattle.spf_repair.proofs.replace.rows_below.Goals as goal

pub returns-clause-below : goal.returns-clause-below
returns-clause-below c = λ k d h.
    let low = c.first_row.ensures.below k d h in
    let is = c.number.ensures in
    let some = c.if-list-eq0.false in
    let le : start (get_or c.args.rows.now k d) ≤ start (get_or c.args.list.now 0 no_row) = omega (arith, low, is) in
    from_first c.args.list.now (start (get_or c.args.rows.now k d)) no_row c.requires.list (omega (arith, some)) le
