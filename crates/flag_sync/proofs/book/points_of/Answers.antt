use Rattle.std.proofs.Common.{◌∙◌, ℕ, ap, arith}
use Rattle.model_router.specs.Sets.{has}
use Rattle.flag_sync.proofs.KindLemmas.{nth-some, kinds-start, kinds-turn, kinds-end}
use Rattle.flag_sync.proofs.book.points_of.Goals as goal

pub loop-place-init : goal.loop-place-init
loop-place-init c = record { known = kinds-start c.args.kinds.now; bound = omega arith }

pub loop-place-preserved : goal.loop-place-preserved
loop-place-preserved c =
    let lt = c.loop-place-test.true in
    record {
      known = λ q. ap (λ (n : ℕ). has n q) c.with_kind-points.ensures ∙ kinds-turn c.loop-place.points c.loop-place.place c.args.kinds.now _ (nth-some c.args.kinds.now c.loop-place.place _ lt) c.loop-place.invariant.known q;
      bound = omega (arith, lt);
    }

pub returns : goal.returns
returns c = kinds-end c.loop-place.points c.loop-place.place c.args.kinds.now c.loop-place-test.false c.loop-place.invariant.known
