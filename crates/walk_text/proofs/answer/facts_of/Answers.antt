use Rattle.std.proofs.Common.{◌≡◌, ℕ, List, Some, sym, ◌∙◌, subst, arith}
use Rattle.model_router.specs.Places.{nth}
use Rattle.model_router.specs.Routers.{Router}
use Rattle.router_core.specs.Reached.{IsReached}
use Rattle.network_lab.proofs.PlaceLemmas.{some-same, nth-less}
use Rattle.walk_text.proofs.ListLemmas.{up-to}
use Rattle.walk_text.proofs.LookLemmas.{looks-more}
use Rattle.walk_text.proofs.answer.facts_of.Goals as goal

pub loop-place-preserved : goal.loop-place-preserved
loop-place-preserved c =
    let routers : List Router = c.args.network.now.seen.routers in
    let n : ℕ = c.loop-place.place in
    let r : Router = c.router-router.result.now in
    let before = c.loop-place.invariant in (
      looks-more routers n r c.routes-routes.result.now c.router-router.ensures c.routes-routes.ensures before.0.0 before.0.1,
      (λ i s less at. up-to (λ (q : ℕ). (s : Router) → nth routers q ≡ Some s → IsReached s) n (λ q low s at. before.1 q s low at) (λ s at. subst IsReached (some-same r s (sym c.router-router.ensures ∙ at)) c.facts.ensures) i less s at),
    )

pub returns-clause-reached : goal.returns-clause-reached
returns-clause-reached c = λ i r at.
    let routers : List Router = c.args.network.now.seen.routers in
    let less = nth-less routers i r at in
    c.loop-place.invariant.1 i r (omega (arith, less, c.loop-place-test.false, c.routers-place-end.ensures)) at
