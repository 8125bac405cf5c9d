use Rattle.std.proofs.Common.{◌+◌, ◌-◌, ap, ◌∙◌, refl, ◌++◌, ◌∷◌, [], false, arith}
use Rattle.losses.specs.Trees.{behind, losses_in, quiet_length}
use Rattle.losses.specs.Schedules.{schedules, with_losses}
use Rattle.losses.proofs.TreeLemmas.{follows-on, going-on, going-all, going-cause, none-more, none-left, begun-told, kept-first, turned, fewer, same-losses, split-at, put-loses}
use Rattle.losses.proofs.exploring.+follow.Goals as goal

pub returns-then-most-eq0-clause-counted : goal.returns-then-most-eq0-clause-counted
returns-then-most-eq0-clause-counted g t c tree p =
    going-all c.args.wanted c.args.tally.now c.add.new.self (with_losses (behind tree c.args.fates.now.items) c.args.most c.args.fates.now.items) (schedules (behind tree c.args.fates.now.items) c.args.most c.args.fates.now.items)
    (follows-on tree c.args.wanted c.args.most c.args.fates.now.items c.as_slice.result.now c.as_slice-2.result.now c.in-Ok.played.cost
    c.args.tally.now c.add.new.self c.as_slice.ensures.value c.as_slice-2.ensures.value (c.in-Ok.ensures.cost tree p) c.in-Ok-add.ensures.added)
    (none-more (behind tree c.args.fates.now.items) c.args.most c.args.fates.now.items c.if-most-eq0.true)

pub loop-place-init : goal.loop-place-init
loop-place-init g t c =
    let begun = begun-told c.len-start.result c.args.fates.now.items (c.len-start.ensures ∙ c.args.fates.now.ok.0) in (
      begun.0,
      begun.1,
      refl,
      λ tree p. (
        let e = c.in-Ok.ensures.further tree p in let s = ap (λ (xs : _). quiet_length (behind tree xs)) c.as_slice.ensures.value in omega (arith, e, s),
        follows-on tree c.args.wanted c.args.most c.args.fates.now.items c.as_slice.result.now c.as_slice-2.result.now c.in-Ok.played.cost
            c.args.tally.now c.add.new.self c.as_slice.ensures.value c.as_slice-2.ensures.value (c.in-Ok.ensures.cost tree p) c.in-Ok-add.ensures.added,
      ),
    )

pub returns-in-Err-follow-clause-cause : goal.returns-in-Err-follow-clause-cause
returns-in-Err-follow-clause-cause g t c tree p =
    let i = c.loop-place.invariant in
    let q = i.3 tree p in
    going-cause c.args.wanted c.args.tally.now c.loop-place.tally (with_losses (behind tree c.loop-place.fates.items) c.args.most c.loop-place.fates.items)
    (schedules (behind tree c.put.new.fates.items) (c.args.most - 1) c.put.new.fates.items)
    (with_losses (behind tree (c.loop-place.fates.items ++ (false ∷ []))) c.args.most (c.loop-place.fates.items ++ (false ∷ [])))
    (schedules (behind tree c.args.fates.now.items) c.args.most c.args.fates.now.items)
    (g.P.Player.meets c.args.player.now) (losses_in c.put.new.fates.items + (c.args.most - 1)) (losses_in c.args.fates.now.items + c.args.most) c.in-Err-follow.fault
    q.1
    (split-at tree c.loop-place.fates.items c.put.new.fates.items (c.loop-place.fates.items ++ (false ∷ [])) c.args.most c.in-Ok-put.ensures.put refl
    (let e = q.0 in omega (arith, e, c.loop-place-test.true)) (omega (arith, c.if-most-eq0.false)))
    (omega (arith, put-loses c.loop-place.fates.items c.put.new.fates.items c.in-Ok-put.ensures.put, i.2, c.if-most-eq0.false))
    (c.in-Err-follow.ensures.cause tree p)

pub loop-place-preserved : goal.loop-place-preserved
loop-place-preserved g t c =
    let i = c.loop-place.invariant in
    let n = turned c.loop-place.fates.items c.put.new.fates.items c.follow.new.fates.items c.pop.new.self.items c.put-in-loop-place.new.fates.items c.follow.new.fates.len
    c.in-Ok-put.ensures.put c.in-Ok-follow.ensures.fates c.pop.ensures.rest c.follow.new.fates.ok.0 c.in-Ok-put-2.ensures.put in
    let k = kept-first c.len-start.result c.args.fates.now.items c.loop-place.fates.items c.put-in-loop-place.new.fates.items n i.0 i.1 in (
      k.0,
      k.1,
      same-losses c.loop-place.fates.items c.put-in-loop-place.new.fates.items n ∙ i.2,
      λ tree p. let q = i.3 tree p in (
        fewer tree c.loop-place.fates.items c.put-in-loop-place.new.fates.items c.loop-place.place c.in-Ok.played.further n q.0 c.loop-place-test.true,
        going-on c.args.wanted c.args.tally.now c.loop-place.tally c.follow.new.tally (with_losses (behind tree c.loop-place.fates.items) c.args.most c.loop-place.fates.items)
            (schedules (behind tree c.put.new.fates.items) (c.args.most - 1) c.put.new.fates.items)
            (with_losses (behind tree c.put-in-loop-place.new.fates.items) c.args.most c.put-in-loop-place.new.fates.items)
            (schedules (behind tree c.args.fates.now.items) c.args.most c.args.fates.now.items)
            q.1
            (split-at tree c.loop-place.fates.items c.put.new.fates.items c.put-in-loop-place.new.fates.items c.args.most c.in-Ok-put.ensures.put n
            (let e = q.0 in omega (arith, e, c.loop-place-test.true)) (omega (arith, c.if-most-eq0.false)))
            (c.in-Ok-follow.ensures.counted tree p),
      ),
    )

pub returns-clause-counted : goal.returns-clause-counted
returns-clause-counted g t c tree p =
    let q = c.loop-place.invariant.3 tree p in
    going-all c.args.wanted c.args.tally.now c.loop-place.tally (with_losses (behind tree c.loop-place.fates.items) c.args.most c.loop-place.fates.items) (schedules (behind tree c.args.fates.now.items) c.args.most c.args.fates.now.items) q.1
    (none-left (behind tree c.loop-place.fates.items) c.args.most c.loop-place.fates.items (let e = q.0 in omega (arith, e, c.loop-place-test.false)))
