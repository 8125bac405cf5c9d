use Rattle.std.proofs.Common.{◌≡◌, ◌-◌, true, None, subst, arith}
use Rattle.std.proofs.lemmas.Result.{IfOk-weaker}
use Rattle.model_router.specs.Places.{nth}
use Rattle.model_router.specs.Receiving.{lsp_drop}
use Rattle.model_router.specs.Routers.{Circuit}
use Rattle.model_router.specs.Steps.{step}
use Rattle.router_desk.specs.Opening.{envelope_of}
use Rattle.flag_sync.specs.declared.heard.LspAnswer.{LspAnswer}
use Rattle.flag_sync.specs.Heard.{heard_of}
use Rattle.router_core.specs.Givens.{given}
use Rattle.router_core.specs.Plans.{IsTeller, is_moving, lsp_event}
use Rattle.router_core.proofs.IdleLemmas.{from-some}
use Rattle.router_core.proofs.MovedLemmas.{heard-with}
use Rattle.router_core.proofs.OpenLemmas.{there}
use Rattle.router_core.proofs.parts.Parts.moving_by.Goals as goal

-- src/plan_lsp.rt
pub returns : goal.returns
returns c =
    let r = c.args.self.now in
    let place = c.args.circuit - 1 in
    let l = c.args.from.0 in
    let from = envelope_of c.args.from.1 in
    let heard = c.args.lsp.now in
    let low = c.requires.there.0 in
    let high = c.requires.there.1 in
    let is = there r.circuits place (omega (arith, low, high)) in
    let kept : lsp_drop r place is.0 l from (heard_of heard) ≡ None =
    from-some (λ (x : Circuit). lsp_drop r place x l from (heard_of heard) ≡ None) (nth r.circuits place) is.0 is.1 c.requires.kept in
    let moving = subst (λ (a : LspAnswer). is_moving a ≡ true) c.requires.row c.requires.moving in
    let teller = subst (λ (a : LspAnswer). IsTeller a heard c.in_ok-entry.entry) c.requires.row c.in_ok-entry.ensures in
    let t = (step given r (lsp_event c.args.circuit l c.args.from.1 heard)).router in
    IfOk-weaker c.told_with.result _ _ (λ told tells. tells t (heard-with r place l from heard is.0 c.in_ok-entry.entry is.1 kept moving teller)) c.told_with.ensures
