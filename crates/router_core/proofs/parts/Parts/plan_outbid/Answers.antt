use Rattle.std.proofs.Common.{◌≡◌, ◌-◌, None, IfSome, Ok, refl, ap, sym, subst, arith}
use Rattle.isis_base.specs.Identifiers.{lsp_number}
use Rattle.model_router.specs.Events as model
use Rattle.model_router.specs.Places.{nth}
use Rattle.model_router.specs.Receiving.{lsp_drop}
use Rattle.model_router.specs.Routers.{Circuit, Router}
use Rattle.model_router.specs.Steps.{step}
use Rattle.flag_sync.specs.Heard.{heard_of}
use Rattle.router_desk.specs.Opening.{envelope_of}
use Rattle.router_sending.specs.Drafts.{DraftView}
use Rattle.router_core.specs.declared.plan.Deed.TheVariants as deed
use Rattle.router_core.specs.Givens.{given}
use Rattle.router_core.specs.Plans.{committed, lsp_event}
use Rattle.router_core.specs.Replies.{Answers}
use Rattle.router_core.proofs.IdleLemmas.{from-some}
use Rattle.router_core.proofs.OpenLemmas.{there}
use Rattle.router_core.proofs.OutbidLemmas.{outbid-with, turned}
use Rattle.router_core.proofs.PlanLemmas.{kept-room}
use Rattle.router_core.proofs.StepLemmas.{taken-step}
use Rattle.router_core.proofs.TakenLemmas.{lsp-taken}
use Rattle.router_core.proofs.parts.Parts.plan_outbid.Goals as goal

-- src/plan_outbid.rt
pub returns : goal.returns
returns c =
    let r = c.args.self.now in
    let place = c.args.circuit - 1 in
    let l = c.args.from.0 in
    let from = envelope_of c.args.from.1 in
    let lsp = c.args.lsp.now in
    let h = heard_of lsp in
    let low = c.requires.there.0 in
    let high = c.requires.there.1 in
    let is = c.in_ok-draft.ensures.draft in
    let t = committed r (deed.Lsp c.args.circuit l lsp None) in
    let kept : IfSome (nth r.circuits place) (λ x. None ≡ lsp_drop r place x l from h) = turned (nth r.circuits place) (λ x. lsp_drop r place x l from h) c.requires.kept in
    let both = taken-step r t place (model.LspHeard l from h) c.in_ok-reply.reply (omega (arith, low, high))
    (lsp-taken r t place l from h (Ok c.in_ok-reply.reply) c.requires.reached.idle kept refl c.in_ok-reply.ensures) in
    let x = there r.circuits place (omega (arith, low, high)) in
    let free : lsp_drop r place x.0 l from h ≡ None = from-some (λ (y : Circuit). lsp_drop r place y l from h ≡ None) (nth r.circuits place) x.0 x.1 c.requires.kept in
    let u = (step given r (lsp_event c.args.circuit l c.args.from.1 lsp)).router in
    record {
      ready = record {
        there = c.requires.there;
        number = c.requires.number;
        octets = c.requires.octets;
        room = kept-room r c.args.circuit l from h c.requires.there kept;
        answer = λ bid. refl;
        named = ap (λ (d : DraftView). d.id) is;
        said = record {
          under = record { keyed = refl; on = ap (λ (d : DraftView). d.level) is };
          named = ap (λ (d : DraftView). lsp_number d.id) is;
          says = ap (λ (d : DraftView). d.contents) is;
        };
        keyed = sym (ap (λ (d : DraftView). d.keyed) is);
      };
      state = both.0;
      reply = subst (λ (x : Router). Answers x place (step given r (lsp_event c.args.circuit l c.args.from.1 lsp)).reply c.in_ok-reply.reply) both.0 both.1;
      told = λ asked. c.in_ok-draft.ensures.told asked u (λ e is-above. outbid-with r place l from lsp x.0 c.args.above e x.1 free c.requires.row is-above);
      marks = c.none.ensures u;
    }
