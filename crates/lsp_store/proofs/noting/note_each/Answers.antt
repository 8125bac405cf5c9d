use Rattle.std.proofs.Common.{◌<◌, ◌+◌, List, length, sym, ap, ◌∙◌, arith}
use Rattle.lsp_store.specs.Maps.{first_where}
use Rattle.lsp_store.specs.Places.{flatten}
use Rattle.lsp_store.proofs.ChangeLemmas.{pages-turn, pages-end}
use Rattle.lsp_store.proofs.NoteLemmas.{pages-noted, pages-all}
use Rattle.lsp_store.proofs.noting.note_each.Goals as goal

pub loop-place-preserved : goal.loop-place-preserved
loop-place-preserved g c =
    let i = c.loop-place.invariant in
    let f = g.C.Noting.changed c.args.change.now in
    let test = g.C.Noting.noted c.args.change.now in
    let lt = c.loop-place-test.true in
    let len = c.len.ensures in
    let vec = i.len in
    let whole = c.args.pages.now.ok.0 in
    let ps = c.args.pages.now.items in
    let inside : c.loop-place.place < length ps = omega (arith, lt, len, vec, whole) in
    record {
      items = pages-turn f ps c.loop-place.pages.items c.index_mut.result.now c.note_all.new.self c.loop-place.place (c.loop-place.place + 1) inside (omega arith) i.items c.index_mut.ensures.value c.note_all.ensures.new;
      first = c.earlier-first.ensures ∙ pages-noted f test ps c.loop-place.pages.items c.index_mut.result.now c.note_all.new.self c.loop-place.place (c.loop-place.place + 1) c.loop-place.first c.note_all.result inside (omega arith) i.items c.index_mut.ensures.value c.note_all.ensures.new i.first c.note_all.ensures.first;
      bound = omega (arith, inside);
      len = i.len;
      capacity = i.capacity;
    }

pub returns-clause-first : goal.returns-clause-first
returns-clause-first g c =
    let i = c.loop-place.invariant in
    let f = g.C.Noting.changed c.args.change.now in
    let test = g.C.Noting.noted c.args.change.now in
    let ge = c.loop-place-test.false in
    let len = c.len.ensures in
    let vec = i.len in
    let whole = c.args.pages.now.ok.0 in
    let ps = c.args.pages.now.items in
    i.first ∙ pages-all f test ps c.loop-place.place (omega (arith, ge, len, vec, whole))
    ∙ ap (λ (qs : List _). first_where test (flatten qs)) (sym (i.items ∙ pages-end f ps c.loop-place.place (omega (arith, ge, len, vec, whole))))
