use Rattle.std.proofs.Common.{◌≡◌, ◌-◌, ◌∙◌, length, ap, arith}
use Rattle.model_router.specs.Events as event
use Rattle.model_router.specs.Routers.{Router}
use Rattle.model_router.specs.Steps.{step}
use Rattle.router_core.specs.Givens.{given}
use Rattle.router_core.proofs.PullLemmas.{on-there}
use Rattle.router_core.proofs.SentLemmas.{all-length, pulled-step}
use Rattle.router_core.proofs.parts.Parts.pulled.Goals as goal

-- src/pull.rt
pub settle-requires : goal.settle-requires
settle-requires c =
    let there = c.requires.there in
    let same = ap (λ (r : Router). length r.circuits) c.all_gone.ensures ∙ all-length c.args.self.now (c.args.circuit - 1) (omega (arith, there)) in
    (there.0, omega (arith, there, same))

-- src/pull.rt
pub returns : goal.returns
returns c =
    let r = c.args.self.now in
    let place = c.args.circuit - 1 in
    on-there r.circuits place (λ o. c.settle.new.self ≡ (step given r (event.Pull place)).router) (omega (arith, c.requires.there))
    (λ x n. pulled-step r c.all_gone.new.self c.settle.new.self place x c.requires.reached.idle n c.all_gone.ensures c.settle.ensures)
