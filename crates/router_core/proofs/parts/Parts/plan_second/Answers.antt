use Rattle.std.proofs.Common.{◌≡◌, ◌∙◌, false, List, is_some, map, length, refl, ap, subst}
use Rattle.isis_base.specs.declared.level.Level.TheVariants as level
use Rattle.model_router.specs.Events as model
use Rattle.model_router.specs.Routers.{Circuit, Router}
use Rattle.model_router.specs.Steps.{step}
use Rattle.router_routes.specs.Outlooks.{outlook_of}
use Rattle.router_core.specs.Givens.{given}
use Rattle.router_core.specs.LevelSeconds.{IsLevelSecond}
use Rattle.router_core.specs.Seconds.{later, seen_then}
use Rattle.router_core.specs.Settled.{faces}
use Rattle.router_core.proofs.PassedLemmas.{either-false, first-false, second-false, passed-is, passed-marks, passed-moved, unmoved}
use Rattle.router_core.proofs.StepLemmas.{second-done}
use Rattle.router_core.proofs.parts.Parts.plan_second.Goals as goal

-- src/plan_second.rt
pub returns : goal.returns
returns c =
    let r = c.args.self.now in
    let t = (step given r model.Second).router in
    let list = seen_then c.in_ok-copies.copies r.circuits in
    let one = c.in_ok-one.one in
    let two = c.in-Ok.two in
    let own : c.deref.result.now ≡ r.circuits = c.deref.ensures.value ∙ ap (λ (q : Router). q.circuits) c.self.view_is in
    let later : faces list ≡ faces (map later r.circuits) =
    subst (λ (cs : List Circuit). faces (seen_then c.in_ok-copies.copies cs) ≡ faces (map later cs)) own c.in_ok-copies.ensures.later in
    let count : length list ≡ length r.circuits =
    subst (λ (cs : List Circuit). length (seen_then c.in_ok-copies.copies cs) ≡ length cs) own c.in_ok-copies.ensures.count in
    let seen : c.seen_then-circuits.result.now ≡ list =
    c.seen_then-circuits.ensures ∙ ap (λ (cs : List Circuit). seen_then c.in_ok-copies.copies cs) (c.deref-2.ensures.value ∙ ap (λ (q : Router). q.circuits) c.self.view_is) in
    let asked = is_some c.args.following in
    let first : IsLevelSecond asked r level.One list one = subst (λ (cs : List Circuit). IsLevelSecond asked r level.One cs one) seen c.in_ok-one.ensures in
    let second : IsLevelSecond asked r level.Two list two = subst (λ (cs : List Circuit). IsLevelSecond asked r level.Two cs two) seen c.in-Ok.ensures in
    let is = passed-is r one.wants two.wants list later first.is_later second.is_later in
    let moved = λ (u : one.unasked ≡ false) (v : two.unasked ≡ false). passed-moved r one.wants two.wants list one.movers two.movers c.requires.reached is (first.shifted u) (second.shifted v) in
    record {
      ready = record { later = later; count = count; one = first.is_later; two = second.is_later; made_one = first.made; made_two = second.made };
      state = refl;
      reply = second-done r t;
      told = λ a. c.told_of-told.ensures.told (outlook_of r) (outlook_of t) (either-false one.unasked two.unasked (first.answers a) (second.answers a)) (moved (first.answers a) (second.answers a));
      marks = c.told_of-told.ensures.marks t (λ un none-one none-two.
          passed-marks r one.wants two.wants list _ later is (unmoved (outlook_of r) (outlook_of t) one.movers two.movers none-one none-two (moved (first-false one.unasked two.unasked un) (second-false one.unasked two.unasked un))) first.still first.says second.still second.says);
    }
