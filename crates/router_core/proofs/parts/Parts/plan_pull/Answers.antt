use Rattle.std.proofs.Common.{◌≡◌, ◌-◌, map, refl, arith}
use Rattle.model_router.specs.Datagrams.{Sent}
use Rattle.model_router.specs.Events as event
use Rattle.model_router.specs.Places.{nth}
use Rattle.model_router.specs.Steps.{step}
use Rattle.model_datagram.specs.Datagrams.{datagram}
use Rattle.router_core.specs.Givens.{given}
use Rattle.router_core.specs.Sending.{all_due}
use Rattle.router_core.proofs.IdleLemmas.{from-some}
use Rattle.router_core.proofs.OpenLemmas.{there}
use Rattle.router_core.proofs.SentLemmas.{due-sent}
use Rattle.router_core.proofs.StepLemmas.{pull-reply}
use Rattle.router_core.proofs.parts.Parts.plan_pull.Goals as goal

-- src/pull.rt
pub returns : goal.returns
returns c asked =
    let r = c.args.self.now in
    let place = c.args.circuit - 1 in
    let pulls = event.Pull place in
    let low = c.requires.there.0 in
    let high = c.requires.there.1 in
    let is = there r.circuits place (omega (arith, low, high)) in
    let out = c.in_ok-out.out in
    let stays = c.outlook_laws.ensures.calm r pulls c.requires.reached tt in
    record {
      ready = (c.requires.there, c.requires.reached, c.due-due.ensures);
      state = refl;
      reply = pull-reply r (step given r pulls).router place out
          (due-sent r place is.0 out c.requires.reached.idle is.1
          (from-some (λ y. out ≡ map (λ (says : Sent). datagram r.config r.boot place y says) (all_due r place y)) (nth r.circuits place) is.0 is.1 c.in_ok-out.ensures));
      told = λ _. stays;
      marks = c.after.ensures r pulls c.requires.marks tt stays tt;
    }
