use Rattle.std.proofs.Common.{◌<◌, ◌+◌, length, arith}
use Rattle.lsp_store.proofs.ChangeLemmas.{pages-turn}
use Rattle.lsp_store.proofs.change.change_each.Goals as goal

pub loop-place-preserved : goal.loop-place-preserved
loop-place-preserved g c =
    let i = c.loop-place.invariant in
    let f = g.C.Change.changed c.args.change.now in
    let lt = c.loop-place-test.true in
    let len = c.len.ensures in
    let vec = i.len in
    let whole = c.args.pages.now.ok.0 in
    let inside : c.loop-place.place < length c.args.pages.now.items = omega (arith, lt, len, vec, whole) in
    record {
      items = pages-turn f c.args.pages.now.items c.loop-place.pages.items c.index_mut.result.now c.change_all.new.self c.loop-place.place (c.loop-place.place + 1) inside (omega arith) i.items c.index_mut.ensures.value c.change_all.ensures;
      bound = omega (arith, inside);
      len = i.len;
      capacity = i.capacity;
    }
