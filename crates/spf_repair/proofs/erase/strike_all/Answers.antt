use Rattle.std.proofs.Common.{◌∙◌, get_or, arith}
use Rattle.std.proofs.lemmas.List.Elements.{Contains-get_or}
use Rattle.spf_tree.specs.declared.row.Row.{Row}
use Rattle.spf_repair.specs.Erase.{IsStruck}
use Rattle.spf_tree.proofs.SearchLemmas.{no_row}
use Rattle.spf_repair.proofs.EraseLemmas.{grown_trans, struck_kept}
use Rattle.spf_tree.proofs.SearchLemmas.{upto_more, upto_all}
use Rattle.spf_repair.proofs.erase.strike_all.Goals as goal

pub loop-place-preserved : goal.loop-place-preserved
loop-place-preserved g c =
    let rows = c.args.rows.now in
    let root = c.args.root in
    let old = c.args.old.now in
    let removed = c.args.removed.now in
    let m = c.loop-place.place in
    let inv = c.loop-place.invariant in
    let tick = c.tick.ensures in
    let count = inv.steps in
    record {
      grown = grown_trans root c.args.marks.now c.loop-place.marks c.strike.new.marks c.args.nodes.now.items c.loop-place.nodes.items c.strike.new.nodes.items inv.grown c.in-Ok.ensures.grown;
      struck = upto_more removed (λ (r : Row). IsStruck rows root old c.strike.new.marks r) m no_row c.loop-place-test.true
          (λ k d h. struck_kept rows root old c.loop-place.marks c.strike.new.marks (get_or removed k d) c.in-Ok.ensures.grown.kept (inv.struck k d h)) c.in-Ok.ensures.struck;
      spared = λ all.
          let before = inv.spared all in
          let now = c.in-Ok.ensures.spared (all (get_or removed m no_row) (Contains-get_or removed m no_row c.loop-place-test.true)) in
          (now.0 ∙ before.0, now.1 ∙ before.1);
      steps = omega arith;
    }

pub returns-clause-struck : goal.returns-clause-struck
returns-clause-struck g c = upto_all c.args.removed.now (λ (r : Row). IsStruck c.args.rows.now c.args.root c.args.old.now c.loop-place.marks r) c.loop-place.place c.loop-place-test.false c.loop-place.invariant.struck
