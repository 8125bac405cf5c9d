use Rattle.std.proofs.Common.{◌≡◌, ◌-◌, Bool, Some, None, is_some, IfSome, subst}
use Rattle.model_router.specs.Events as model
use Rattle.model_router.specs.Numbers.{system_number}
use Rattle.model_router.specs.Places.{nth}
use Rattle.model_router.specs.Receiving.{snp_drop}
use Rattle.model_router.specs.Routers.{Router}
use Rattle.model_router.specs.Steps.{step}
use Rattle.flag_sync.specs.Heard.{entries_of}
use Rattle.router_desk.specs.Causes.{name_of}
use Rattle.router_desk.specs.Opening.{envelope_of}
use Rattle.router_desk.specs.Heard.{range_of}
use Rattle.router_core.specs.Givens.{given}
use Rattle.router_core.specs.Replies.{Answers}
use Rattle.router_core.specs.declared.reply.Reply.TheVariants as reply
use Rattle.router_core.proofs.PlanLemmas.{caused, snp-planned}
use Rattle.router_core.proofs.TakenLemmas.{none-same}
use Rattle.router_core.proofs.parts.Parts.plan_snp.Goals as goal

-- src/plan_snp.rt
pub returns-in-Some : goal.returns-in-Some
returns-in-Some c =
    let r = c.args.self.now in
    let place = c.args.circuit - 1 in
    let l = c.args.level in
    let from = envelope_of c.args.from.0 in
    let source = system_number c.args.from.1 in
    c.plan_drop.ensures (is_some c.args.following) c.args.circuit (model.SnpHeard l from source (range_of c.args.range) (entries_of c.args.entries.now)) c.requires.there
    (subst (λ (b : Bool). IfSome (nth r.circuits place) (λ x. snp_drop r place x l from source b ≡ Some (name_of c.in-Some.cause))) (none-same c.args.range c.is_none.result c.is_none.ensures)
    (caused (nth r.circuits place) (λ x. snp_drop r place x l from source c.is_none.result) c.snp_cause.result c.in-Some.cause c.in-Some.is c.snp_cause.ensures))

-- src/plan_snp.rt
pub told_by_snp-requires-clause-kept : goal.told_by_snp-requires-clause-kept
told_by_snp-requires-clause-kept c =
    let r = c.args.self.now in
    let place = c.args.circuit - 1 in
    subst (λ (b : Bool). IfSome (nth r.circuits place) (λ x. None ≡ snp_drop r place x c.args.level (envelope_of c.args.from.0) (system_number c.args.from.1) b)) (none-same c.args.range c.is_none.result c.is_none.ensures) c.in-None.ensures

-- src/plan_snp.rt
pub returns : goal.returns
returns c =
    let r = c.args.self.now in
    let place = c.args.circuit - 1 in
    let l = c.args.level in
    let from = envelope_of c.args.from.0 in
    let source = system_number c.args.from.1 in
    let kept = subst (λ (b : Bool). IfSome (nth r.circuits place) (λ x. None ≡ snp_drop r place x l from source b)) (none-same c.args.range c.is_none.result c.is_none.ensures) c.in-None.ensures in
    let both = snp-planned r c.args.circuit l from source c.args.range (entries_of c.args.entries.now) c.requires.there c.requires.reached.idle kept in
    let u = step given r (model.Take place (model.SnpHeard l from source (range_of c.args.range) (entries_of c.args.entries.now))) in
    record {
      ready = record { there = c.requires.there; ready = c.in-Ok.ensures.ready; said = c.in-Ok.ensures.said };
      state = both.0;
      reply = subst (λ (q : Router). Answers q place u.reply reply.Done) both.0 both.1;
      told = c.in_ok-told.ensures.told;
      marks = c.in_ok-told.ensures.marks;
    }
