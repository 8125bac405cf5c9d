use Rattle.std.proofs.Common.{◌≡◌, ℕ, ◌+◌, Bool, if◌then◌else◌, sym, ap, ◌∙◌, arith}
use Rattle.route_table.specs.Ranks.{prefix_number}
use Rattle.walk_text.proofs.OwnerLemmas.{count-next}
use Rattle.walk_text.proofs.owners.owner_count.Goals as goal
use Rattle.walk_text.proofs.owners.owner_count.Goals.{then-has_own, else-has_own}

pub loop-place-preserved : goal.loop-place-preserved
loop-place-preserved c =
    let n : ℕ = c.loop-place.place in
    let before = c.loop-place.invariant in
    let count : c.if-has_own.count ≡ c.loop-place.count + (if c.has_own.result then 1 else 0) = elim c.if-has_own.branch [
      | then-has_own w ↦ w.count-is ∙ ap (λ (b : Bool). c.loop-place.count + (if b then 1 else 0)) (sym w.if-has_own.true)
      | else-has_own w ↦ (let e = w.count-is in let z : c.loop-place.count ≡ c.loop-place.count + 0 = omega arith in e ∙ (z ∙ ap (λ (b : Bool). c.loop-place.count + (if b then 1 else 0)) (sym w.if-has_own.false)))
    ] in (
      elim c.if-has_own.branch [
        | then-has_own w ↦ (let e = w.count-is in let l = before.0 in omega (arith, e, l))
        | else-has_own w ↦ (let e = w.count-is in let l = before.0 in omega (arith, e, l))
      ],
      (λ looks are. count ∙ count-next c.args.network.now.seen.routers looks are n (prefix_number c.args.prefix) c.loop-place.count c.router.result.now c.routes.result.now c.list.result.now c.has_own.result
          c.router.ensures c.routes.ensures c.list.ensures.same c.has_own.ensures (before.1 looks are)),
    )
