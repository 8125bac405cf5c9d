use Rattle.std.proofs.Common.{◌∷◌, sym, ap, ◌∙◌, arith}
use Rattle.std.proofs.lemmas.Bool.Decides.{nat_tests}
use Rattle.std.proofs.lemmas.Result.{on_ok_weaker}
use Rattle.model_router.specs.Routers.{Router}
use Rattle.network_lab.proofs.PlaceLemmas.{nth-get, nth-less, some-same}
use Rattle.network_lab.proofs.taking.note_state.Goals as goal

pub returns-in-Some : goal.returns-in-Some
returns-in-Some g c =
    on_ok_weaker c.note_after.result
    (λ noted r at. noted ∙ ap (λ (x : Router). x ∷ c.args.histories.now)
    (some-same c.in-Some.router.now r (sym (nth-get c.args.routers.now c.args.router c.in-Some.router.now (let inside = c.in-Some.ensures.lookup.0 in grind (arith, nat_tests, inside)) c.in-Some.ensures.lookup.1) ∙ at)))
    c.note_after.ensures.ok

pub returns-in-None : goal.returns-in-None
returns-in-None g c r at = absurd (let past = c.in-None.ensures.lookup in let there = nth-less c.args.routers.now c.args.router r at in omega (arith, past, there))
