use Rattle.std.proofs.Common.{◌+◌, ap, sym, ◌∙◌, refl, ◌++◌, ◌∷◌, [], true, false, arith}
use Rattle.losses.specs.Trees.{behind, losses_in, quiet_length}
use Rattle.losses.specs.Counts.{with_all}
use Rattle.losses.specs.PartsLeft.{lost_here, part_losses}
use Rattle.losses.proofs.TreeLemmas.{going-on, going-all, going-cause, none-more-of-part, none-of-part, part-begins, split-part, fewer, same-losses, arrived}
use Rattle.losses.proofs.exploring.lose_each.Goals as goal

pub returns-then-most-eq0-clause-counted : goal.returns-then-most-eq0-clause-counted
returns-then-most-eq0-clause-counted g c tree p =
    sym (ap (with_all c.args.wanted c.args.tally.now) (none-more-of-part c.args.part.of c.args.part.number tree c.args.most c.if-most-eq0.true))

pub loop-place-init : goal.loop-place-init
loop-place-init g c = (
  ap losses_in c.new-fates.ensures.items,
  λ tree p. (
    (let e = c.requires.further tree p in let s = ap (λ (xs : _). quiet_length (behind tree xs)) c.new-fates.ensures.items in omega (arith, e, s)),
    part-begins tree c.args.wanted c.args.part.of c.args.part.number c.args.most c.new-fates.result.items c.args.tally.now c.new-fates.ensures.items,
  ),
)

pub returns-in-Err-clause-cause : goal.returns-in-Err-clause-cause
returns-in-Err-clause-cause g c tree p =
    let i = c.loop-place.invariant in
    let q = i.1 tree p in
    going-cause c.args.wanted c.args.tally.now c.loop-place.tally
    (part_losses c.args.part.of c.args.part.number c.loop-place.place (behind tree c.loop-place.fates.items) c.args.most c.loop-place.fates.items)
    (lost_here c.args.part.of c.args.part.number c.loop-place.place (behind tree (c.loop-place.fates.items ++ true ∷ [])) c.args.most c.loop-place.fates.items)
    (part_losses c.args.part.of c.args.part.number (c.loop-place.place + 1) (behind tree (c.loop-place.fates.items ++ false ∷ [])) c.args.most (c.loop-place.fates.items ++ false ∷ []))
    (part_losses c.args.part.of c.args.part.number 0 tree c.args.most [])
    (g.P.Player.meets c.args.player.now) (losses_in c.loop-place.fates.items + c.args.most) c.args.most c.in-Err.fault
    q.1
    (split-part c.args.part.of c.args.part.number c.loop-place.place tree c.loop-place.fates.items (c.loop-place.fates.items ++ false ∷ []) c.args.most refl
    (let e = q.0 in omega (arith, e, c.loop-place-test.true)) (omega (arith, c.if-most-eq0.false)))
    (omega (arith, i.0))
    (c.in-Err.ensures.cause tree p)

pub loop-place-preserved : goal.loop-place-preserved
loop-place-preserved g c =
    let i = c.loop-place.invariant in
    let n = arrived c.loop-place.fates.items c.lose.new.fates.items c.put.new.fates.items c.in-Ok-put.ensures.put c.in-Ok.ensures.fates in (
      same-losses c.loop-place.fates.items c.put.new.fates.items n ∙ i.0,
      λ tree p. let q = i.1 tree p in (
        fewer tree c.loop-place.fates.items c.put.new.fates.items c.loop-place.place c.args.further n q.0 c.loop-place-test.true,
        going-on c.args.wanted c.args.tally.now c.loop-place.tally c.lose.new.tally
            (part_losses c.args.part.of c.args.part.number c.loop-place.place (behind tree c.loop-place.fates.items) c.args.most c.loop-place.fates.items)
            (lost_here c.args.part.of c.args.part.number c.loop-place.place (behind tree (c.loop-place.fates.items ++ true ∷ [])) c.args.most c.loop-place.fates.items)
            (part_losses c.args.part.of c.args.part.number (c.loop-place.place + 1) (behind tree c.put.new.fates.items) c.args.most c.put.new.fates.items)
            (part_losses c.args.part.of c.args.part.number 0 tree c.args.most [])
            q.1
            (split-part c.args.part.of c.args.part.number c.loop-place.place tree c.loop-place.fates.items c.put.new.fates.items c.args.most n
            (let e = q.0 in omega (arith, e, c.loop-place-test.true)) (omega (arith, c.if-most-eq0.false)))
            (c.in-Ok.ensures.counted tree p),
      ),
    )

pub returns-clause-counted : goal.returns-clause-counted
returns-clause-counted g c tree p =
    let q = c.loop-place.invariant.1 tree p in
    going-all c.args.wanted c.args.tally.now c.loop-place.tally (part_losses c.args.part.of c.args.part.number c.loop-place.place (behind tree c.loop-place.fates.items) c.args.most c.loop-place.fates.items) (part_losses c.args.part.of c.args.part.number 0 tree c.args.most []) q.1
    (none-of-part c.args.part.of c.args.part.number c.loop-place.place (behind tree c.loop-place.fates.items) c.args.most c.loop-place.fates.items
    (let e = q.0 in omega (arith, e, c.loop-place-test.false)))
