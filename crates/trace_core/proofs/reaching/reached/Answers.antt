use Rattle.std.proofs.Common.{◌∙◌, ℕ, ◌<◌, length, List, Some, sym, ap, subst, arith}
use Rattle.trace_core.specs.Reaching.{IsSpread}
use Rattle.trace_core.proofs.AmongLemmas.{get-at, fewer}
use Rattle.trace_core.proofs.ReachLemmas.{get-there, begins, goes, ends, room}
use Rattle.trace_core.proofs.reaching.reached.Goals as goal

pub loop-done-init : goal.loop-done-init
loop-done-init g c =
    let ways = g.W.Ways.ways c.args.among.now in
    let many = g.W.Ways.many c.args.among.now in
    begins ways many c.args.from c.spread.new.found.items
    (subst (λ (xs : List ℕ). IsSpread ways many c.args.from xs c.spread.new.found.items) c.new-found.ensures.items c.in-Ok.ensures)

pub spread-requires-in-loop-done : goal.spread-requires-in-loop-done
spread-requires-in-loop-done g c =
    let place = c.index-place.result.now in
    let items = c.loop-done.found.items in
    let less : c.loop-done.done < length items = omega (arith, c.loop-done-test.true, c.len.ensures, c.loop-done.found.ok.0) in
    let at = get-at items c.loop-done.done place less ∙ ap (λ (n : ℕ). Some n) (sym c.index-place.ensures) in
    c.loop-done.invariant.below place (get-there items c.loop-done.done place at)

pub loop-done-smaller : goal.loop-done-smaller
loop-done-smaller g c =
    let ways = g.W.Ways.ways c.args.among.now in
    let many = g.W.Ways.many c.args.among.now in
    let items = c.loop-done.found.items in
    let less : c.loop-done.done < length items = omega (arith, c.loop-done-test.true, c.len.ensures, c.loop-done.found.ok.0) in
    let most = room ways many c.args.from items c.loop-done.done c.loop-done.invariant in
    fewer many c.loop-done.done (omega (arith, less, most))

pub loop-done-preserved : goal.loop-done-preserved
loop-done-preserved g c =
    let ways = g.W.Ways.ways c.args.among.now in
    let many = g.W.Ways.many c.args.among.now in
    let place = c.index-place.result.now in
    let items = c.loop-done.found.items in
    let less : c.loop-done.done < length items = omega (arith, c.loop-done-test.true, c.len.ensures, c.loop-done.found.ok.0) in
    let at = get-at items c.loop-done.done place less ∙ ap (λ (n : ℕ). Some n) (sym c.index-place.ensures) in
    goes ways many c.args.from items c.spread-in-loop-done.new.found.items c.loop-done.done place at c.in-Ok-spread.ensures c.loop-done.invariant

pub returns : goal.returns
returns g c =
    ends (g.W.Ways.ways c.args.among.now) (g.W.Ways.many c.args.among.now) c.args.from c.loop-done.found.items c.loop-done.done
    (omega (arith, c.loop-done-test.false, c.len.ensures, c.loop-done.found.ok.0)) c.loop-done.invariant
