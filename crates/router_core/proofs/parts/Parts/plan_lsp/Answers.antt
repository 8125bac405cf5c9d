use Rattle.std.proofs.Common.{◌-◌, is_some}
use Rattle.model_router.specs.Events as model
use Rattle.model_router.specs.Places.{nth}
use Rattle.model_router.specs.Receiving.{lsp_drop}
use Rattle.flag_sync.specs.Heard.{heard_of}
use Rattle.router_desk.specs.Opening.{envelope_of}
use Rattle.router_core.proofs.PlanLemmas.{caused}
use Rattle.router_core.proofs.parts.Parts.plan_lsp.Goals as goal

-- src/plan_lsp.rt
pub returns-in-Some : goal.returns-in-Some
returns-in-Some c =
    let r = c.args.self.now in
    let place = c.args.circuit - 1 in
    let l = c.args.from.0 in
    let from = envelope_of c.args.from.1 in
    let h = heard_of c.args.lsp.now in
    c.plan_drop.ensures (is_some c.args.following) c.args.circuit (model.LspHeard l from h) c.requires.there
    (caused (nth r.circuits place) (λ x. lsp_drop r place x l from h) c.lsp_cause.result c.in-Some.cause c.in-Some.is c.lsp_cause.ensures)
