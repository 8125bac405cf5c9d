use Rattle.std.proofs.Common.{◌∙◌, ◌+◌, ◌++◌, ◌∷◌, [], List, ℕ, ap, sym, subst}
use Rattle.spf_tree.specs.Exploring.{AreHopsOf}
use Rattle.spf_tree.proofs.TableLemmas.{hops_more, hops_done, past_first}
use Rattle.spf_tree.proofs.table.hops_beside.Goals as goal

pub returns-then-to-target-clause-hops : goal.returns-then-to-target-clause-hops
returns-then-to-target-clause-hops c =
    hops_done c.args.pairs.now c.args.target c.loop-place.hops c.loop-place.place
    (past_first c.args.pairs.now c.args.target c.loop-place.place (0, 0) c.requires c.loop-place-test.true (c.first_pair-place.ensures.above c.loop-place.place (0, 0) c.loop-place.auto.place c.loop-place-test.true) c.if-to-target.true)
    c.loop-place.invariant

pub loop-place-preserved : goal.loop-place-preserved
loop-place-preserved c =
    subst (λ (hops : List ℕ). AreHopsOf c.args.pairs.now c.args.target hops (c.loop-place.place + 1)) (sym (c.in-Ok.ensures.ok ∙ ap (λ (hop : ℕ). c.loop-place.hops ++ hop ∷ []) c.system_of.ensures))
    (hops_more c.args.pairs.now c.args.target c.loop-place.hops c.loop-place.place (0, 0) c.requires c.loop-place-test.true c.if-to-target.false c.loop-place.invariant)
