use Rattle.std.proofs.Common.{ℕ, List, get_or, refl, sym, subst}
use Rattle.std.specs.List.{Contains}
use Rattle.trace_core.specs.Whichever.{MayMove}
use Rattle.trace_core.proofs.AmongLemmas.{get-at, not-so, none-more, none-at-all}
use Rattle.trace_core.proofs.ReachLemmas.{get-there}
use Rattle.trace_core.proofs.all_ways.loops_among.Goals as goal

pub reached-requires : goal.reached-requires
reached-requires g c = c.requires _ (get-there c.args.places.now c.loop-at.at _ (get-at c.args.places.now c.loop-at.at 0 c.loop-at-test.true))

pub returns-then-is_among : goal.returns-then-is_among
returns-then-is_among g c =
    let place = get_or c.args.places.now c.loop-at.at 0 in
    let there = get-there c.args.places.now c.loop-at.at place (get-at c.args.places.now c.loop-at.at 0 c.loop-at-test.true) in
    let back = subst (λ (xs : List ℕ). Contains xs place) c.as_slice.ensures.value (c.is_among.ensures.0 c.if-is_among.true) in
    (λ h. (place, there, (c.in-Ok.ensures.all place).0 back), λ h. refl)

pub loop-at-preserved : goal.loop-at-preserved
loop-at-preserved g c =
    let place = get_or c.args.places.now c.loop-at.at 0 in
    none-more c.args.places.now (λ place. MayMove (g.W.Ways.ways c.args.among.now) place place) c.loop-at.at place (get-at c.args.places.now c.loop-at.at 0 c.loop-at-test.true)
    (λ m. not-so c.is_among.result c.if-is_among.false (c.is_among.ensures.1 (subst (λ (xs : List ℕ). Contains xs place) (sym c.as_slice.ensures.value) ((c.in-Ok.ensures.all place).1 m)))) c.loop-at.invariant

pub returns : goal.returns
returns g c = ((λ h. absurd (not-so _ refl h)), λ h. absurd (none-at-all c.args.places.now (λ place. MayMove (g.W.Ways.ways c.args.among.now) place place) c.loop-at.at c.loop-at-test.false c.loop-at.invariant h.0 h.1 h.2))
