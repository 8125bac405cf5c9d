use Rattle.std.proofs.Common.{◌<◌, ◌+◌, length, ◌∙◌, arith}
use Rattle.lsp_store.proofs.ChangeLemmas.{pairs-turn, pairs-end}
use Rattle.lsp_store.proofs.change.change_pairs.Goals as goal

pub loop-place-preserved : goal.loop-place-preserved
loop-place-preserved g c =
    let i = c.loop-place.invariant in
    let f = g.C.Change.changed c.args.change.now in
    let lt = c.loop-place-test.true in
    let len = c.len.ensures in
    let vec = i.len in
    let whole = c.args.pairs.now.ok.0 in
    let inside : c.loop-place.place < length c.args.pairs.now.items = omega (arith, lt, len, vec, whole) in
    record {
      items = pairs-turn f c.args.pairs.now.items c.loop-place.pairs.items c.change_pair.new.pairs.items c.loop-place.place (c.loop-place.place + 1) inside (omega arith) i.items c.change_pair.ensures.new;
      bound = omega (arith, inside);
      len = c.change_pair.ensures.len ∙ i.len;
      capacity = c.change_pair.ensures.capacity ∙ i.capacity;
    }

pub returns-clause-new : goal.returns-clause-new
returns-clause-new g c =
    let i = c.loop-place.invariant in
    let f = g.C.Change.changed c.args.change.now in
    let ge = c.loop-place-test.false in
    let len = c.len.ensures in
    let vec = i.len in
    let whole = c.args.pairs.now.ok.0 in
    i.items ∙ pairs-end f c.args.pairs.now.items c.loop-place.place (omega (arith, ge, len, vec, whole))
