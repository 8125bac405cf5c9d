use Rattle.std.proofs.Common.{◌≡◌, ◌-◌, None, IfSome, Ok, refl, subst, arith}
use Rattle.model_router.specs.Events as model
use Rattle.model_router.specs.Places.{nth}
use Rattle.model_router.specs.Receiving.{lsp_drop}
use Rattle.model_router.specs.Routers.{Router}
use Rattle.model_router.specs.Steps.{step}
use Rattle.flag_sync.specs.Heard.{heard_of}
use Rattle.router_desk.specs.Opening.{envelope_of}
use Rattle.router_core.specs.declared.plan.Deed.TheVariants as deed
use Rattle.router_core.specs.Givens.{given}
use Rattle.router_core.specs.Plans.{committed, lsp_event, row_met}
use Rattle.router_core.specs.Replies.{Answers}
use Rattle.router_core.proofs.OutbidLemmas.{turned}
use Rattle.router_core.proofs.PlanLemmas.{kept-room, no-bid}
use Rattle.router_core.proofs.StepLemmas.{taken-step}
use Rattle.router_core.proofs.TakenLemmas.{lsp-taken}
use Rattle.router_core.proofs.parts.Parts.plan_row.Goals as goal

-- src/plan_lsp.rt
pub returns : goal.returns
returns c =
    let r = c.args.self.now in
    let place = c.args.circuit - 1 in
    let l = c.args.from.0 in
    let from = envelope_of c.args.from.1 in
    let lsp = c.args.lsp.now in
    let h = heard_of lsp in
    let low = c.requires.there.0 in
    let high = c.requires.there.1 in
    let t = committed r (deed.Lsp c.args.circuit l lsp None) in
    let kept : IfSome (nth r.circuits place) (λ x. None ≡ lsp_drop r place x l from h) = turned (nth r.circuits place) (λ x. lsp_drop r place x l from h) c.requires.kept in
    let both = taken-step r t place (model.LspHeard l from h) c.in_ok-reply.reply (omega (arith, low, high))
    (lsp-taken r t place l from h (Ok c.in_ok-reply.reply) c.requires.reached.idle kept refl c.in_ok-reply.ensures) in
    record {
      ready = record {
        there = c.requires.there;
        number = c.requires.number;
        octets = c.requires.octets;
        room = kept-room r c.args.circuit l from h c.requires.there kept;
        answer = λ bid. absurd (no-bid c.args.row (row_met r l lsp) lsp c.requires.row c.requires.other bid);
        named = tt;
        said = tt;
        keyed = tt;
      };
      state = both.0;
      reply = subst (λ (x : Router). Answers x place (step given r (lsp_event c.args.circuit l c.args.from.1 lsp)).reply c.in_ok-reply.reply) both.0 both.1;
      told = c.in_ok-told.ensures.told;
      marks = c.in_ok-told.ensures.marks;
    }
