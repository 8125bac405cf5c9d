use Rattle.std.proofs.Common.{◌∙◌, sym, arith}
use Rattle.router_routes.proofs.ApartLemmas.{apart-before}
use Rattle.router_routes.proofs.apart.before_last.Goals as goal

pub loop-end-preserved : goal.loop-end-preserved
loop-end-preserved c =
    let some-old = c.loop-end-test.true in
    let some-new = c.if-other-gt0.true in
    let in-old = c.loop-end.invariant.0 in
    let in-new = c.loop-end.invariant.1 in
    let same = sym c.index-gone-end.is ∙ c.same_candidate.ensures c.if-same_candidate.true ∙ c.index-come-other.is in
    (omega (arith, in-old), omega (arith, in-new), apart-before c.args.gone.now c.args.come.now c.loop-end.end c.loop-end.other _ _ some-old some-new in-old in-new same c.loop-end.invariant.2)
