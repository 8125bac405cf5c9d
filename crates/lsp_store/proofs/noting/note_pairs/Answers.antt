use Rattle.std.proofs.Common.{◌<◌, ◌+◌, length, sym, ap, ◌∙◌, arith}
use Rattle.lsp_store.specs.Maps.{first_where}
use Rattle.lsp_store.proofs.ChangeLemmas.{pairs-turn, pairs-end}
use Rattle.lsp_store.proofs.NoteLemmas.{pairs-noted, pairs-all}
use Rattle.lsp_store.proofs.noting.note_pairs.Goals as goal

pub loop-place-preserved : goal.loop-place-preserved
loop-place-preserved g c =
    let i = c.loop-place.invariant in
    let f = g.C.Noting.changed c.args.change.now in
    let test = g.C.Noting.noted c.args.change.now in
    let lt = c.loop-place-test.true in
    let len = c.len.ensures in
    let vec = i.len in
    let whole = c.args.pairs.now.ok.0 in
    let xs = c.args.pairs.now.items in
    let inside : c.loop-place.place < length xs = omega (arith, lt, len, vec, whole) in
    record {
      items = pairs-turn f xs c.loop-place.pairs.items c.note_pair.new.pairs.items c.loop-place.place (c.loop-place.place + 1) inside (omega arith) i.items c.note_pair.ensures.new;
      first = c.earlier-first.ensures ∙ pairs-noted f test xs c.loop-place.pairs.items c.loop-place.place (c.loop-place.place + 1) c.loop-place.first c.note_pair.result inside (omega arith) i.items i.first c.note_pair.ensures.first;
      bound = omega (arith, inside);
      len = c.note_pair.ensures.len ∙ i.len;
      capacity = c.note_pair.ensures.capacity ∙ i.capacity;
    }

pub returns-clause-new : goal.returns-clause-new
returns-clause-new g c =
    let i = c.loop-place.invariant in
    let f = g.C.Noting.changed c.args.change.now in
    let ge = c.loop-place-test.false in
    let len = c.len.ensures in
    let vec = i.len in
    let whole = c.args.pairs.now.ok.0 in
    i.items ∙ pairs-end f c.args.pairs.now.items c.loop-place.place (omega (arith, ge, len, vec, whole))

pub returns-clause-first : goal.returns-clause-first
returns-clause-first g c =
    let i = c.loop-place.invariant in
    let f = g.C.Noting.changed c.args.change.now in
    let test = g.C.Noting.noted c.args.change.now in
    let ge = c.loop-place-test.false in
    let len = c.len.ensures in
    let vec = i.len in
    let whole = c.args.pairs.now.ok.0 in
    let xs = c.args.pairs.now.items in
    i.first ∙ pairs-all f test xs c.loop-place.place (omega (arith, ge, len, vec, whole))
    ∙ ap (first_where test) (sym (i.items ∙ pairs-end f xs c.loop-place.place (omega (arith, ge, len, vec, whole))))
