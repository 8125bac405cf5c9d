use Rattle.std.proofs.Common.{◌∙◌, ◌-◌, List, length, take, drop, sym, subst, arith}
use Rattle.std.proofs.lemmas.List.{take_rest}
use Rattle.router_routes.specs.Ways.{AreApart}
use Rattle.route_table.specs.declared.candidate.Candidate.{Candidate}
use Rattle.router_routes.proofs.ApartLemmas.{apart-past}
use Rattle.router_routes.proofs.apart.past_first.Goals as goal

pub loop-place-preserved : goal.loop-place-preserved
loop-place-preserved c =
    let in-old = c.loop-place-test.true in
    let in-new = c.if-place-come.true in
    let same = sym c.index-gone-place.is ∙ c.same_candidate.ensures c.if-same_candidate.true ∙ c.index-come-place.is in
    (omega (arith, in-old), omega (arith, in-new), apart-past c.args.gone.now c.args.come.now c.loop-place.place _ _ in-old in-new same c.loop-place.invariant.2)

pub returns : goal.returns
returns c =
    let old = c.args.gone.now in
    let new = c.args.come.now in
    let place = c.loop-place.place in
    λ left right have. c.loop-place.invariant.2 left right
    (subst (λ (l : List Candidate). AreApart (drop place old) l left right) (take_rest new place)
    (subst (λ (l : List Candidate). AreApart l (take (length new - place) (drop place new)) left right) (take_rest old place) have))
