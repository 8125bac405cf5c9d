use Rattle.std.proofs.Common.{◌∙◌, ◌-◌, List, length, take, drop, sym, subst, arith}
use Rattle.std.proofs.lemmas.List.{take_rest}
use Rattle.router_routes.specs.Touched.{HaveOwn}
use Rattle.router_routes.proofs.OwnLemmas.{Own, past-turn}
use Rattle.router_routes.proofs.own.past_first.Goals as goal

pub loop-place-preserved : goal.loop-place-preserved
loop-place-preserved c =
    let in-old = c.loop-place-test.true in
    let in-new = c.if-place-new.true in
    let same = sym c.index-old-place.is ∙ c.is_same.ensures c.if-is_same.true ∙ c.index-new-place.is in
    (omega (arith, in-old), omega (arith, in-new), past-turn c.args.old.now c.args.new.now c.loop-place.place _ _ in-old in-new same c.loop-place.invariant.2)

pub returns : goal.returns
returns c =
    let old = c.args.old.now in
    let new = c.args.new.now in
    let place = c.loop-place.place in
    λ prefixes have. c.loop-place.invariant.2 prefixes
    (subst (λ (l : List Own). HaveOwn (drop place old) l prefixes) (take_rest new place)
    (subst (λ (l : List Own). HaveOwn l (take (length new - place) (drop place new)) prefixes) (take_rest old place) have))
