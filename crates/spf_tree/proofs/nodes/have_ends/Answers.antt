use Rattle.std.proofs.Common.{ℕ, subst}
use Rattle.std.specs.List.{Contains}
use Rattle.spf_tree.specs.declared.row.Row.{Row}
use Rattle.spf_tree.specs.Walks.{end}
use Rattle.spf_tree.proofs.SearchLemmas.{no_row, upto_more, upto_all}
use Rattle.spf_tree.proofs.nodes.have_ends.Goals as goal

pub loop-place-preserved : goal.loop-place-preserved
loop-place-preserved c =
    upto_more c.args.rows.now (λ (row : Row). Contains c.args.nodes.now (end row)) c.loop-place.place no_row c.loop-place-test.true c.loop-place.invariant
    (subst (λ (n : ℕ). Contains c.args.nodes.now n) c.number.ensures c.if-not-is_among.ensures)

pub returns : goal.returns
returns c = upto_all c.args.rows.now (λ (row : Row). Contains c.args.nodes.now (end row)) c.loop-place.place c.loop-place-test.false c.loop-place.invariant
