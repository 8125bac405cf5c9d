use Rattle.std.proofs.Common.{◌≡◌, ◌∙◌, List, refl, sym, ap, subst}
use Rattle.isis_base.specs.declared.level.Level.TheVariants as level
use Rattle.model_router.specs.Elections.{idle_all}
use Rattle.model_router.specs.Events as model
use Rattle.model_router.specs.Routers.{Circuit, LevelState, Router}
use Rattle.model_router.specs.Steps.{step}
use Rattle.router_levels.specs.Views.{state_of}
use Rattle.router_core.specs.Givens.{given}
use Rattle.router_core.specs.Machines.{machine_of}
use Rattle.router_core.specs.Passing.{Leads}
use Rattle.router_core.specs.Plans.{IsSecondReady}
use Rattle.router_core.specs.Seconds.{followed, level_later, seen_then}
use Rattle.router_core.proofs.SecondLemmas.{second-of, later-part}
use Rattle.router_core.proofs.StepLemmas.{second-step}
use Rattle.router_core.proofs.parts.Parts.second_passed.Goals as goal

-- src/second.rt
pub returns-clause-state : goal.returns-clause-state
returns-clause-state c =
    let v = machine_of c.self.inside in
    let cs = c.seen_then-circuits.result.now in
    let seen : cs ≡ seen_then c.args.copies.now v.circuits =
    c.seen_then-circuits.ensures ∙ ap (λ (xs : List Circuit). seen_then c.args.copies.now xs) c.deref.ensures.value in
    let ready : IsSecondReady v cs c.args.one c.args.two =
    subst (λ (xs : List Circuit). IsSecondReady v xs c.args.one c.args.two) (sym seen)
    (subst (λ (q : Router). IsSecondReady q (seen_then c.args.copies.now q.circuits) c.args.one c.args.two) (sym c.self.view_is) c.requires) in
    let first : state_of c.pass.new.on ≡ followed v level.One c.args.one (level_later (state_of c.self.inside.one) level.One cs) =
    c.pass.ensures.state v c.args.one (sym c.key_of-key_one.ensures)
    (subst (λ (s : LevelState). Leads v level.One cs s c.args.one c.in-Ok.one) (sym c.ready_to_pass.ensures.state) (c.in-Ok.ensures.leads v (sym c.key_of-key_one.ensures)))
    ∙ ap (λ (s : LevelState). followed v level.One c.args.one (level_later s level.One cs)) c.ready_to_pass.ensures.state in
    let second : state_of c.pass-2.new.on ≡ followed v level.Two c.args.two (level_later (state_of c.self.inside.two) level.Two cs) =
    c.pass-2.ensures.state v c.args.two (sym c.key_of-key_two.ensures)
    (subst (λ (s : LevelState). Leads v level.Two cs s c.args.two c.in-Ok-ready_to_pass.two) (sym c.ready_to_pass-2.ensures.state) (c.in-Ok-ready_to_pass.ensures.leads v (sym c.key_of-key_two.ensures)))
    ∙ ap (λ (s : LevelState). followed v level.Two c.args.two (level_later s level.Two cs)) c.ready_to_pass-2.ensures.state in
    let t : Router = record v {
      circuits = c.idle_all.new.circuits.items;
      levels = record { one = state_of c.pass.new.on; two = state_of c.pass-2.new.on };
    } in
    subst (λ (q : Router). t ≡ (step given q model.Second).router) c.self.view_is
    (second-step v t
    (second-of v v (state_of c.pass.new.on) (state_of c.pass-2.new.on) c.idle_all.new.circuits.items refl
    (c.idle_all.ensures.state v.config (sym c.system.ensures) ∙ ap (λ (xs : List Circuit). idle_all v.config 0 xs) c.pass_circuits.ensures.state)
    (later-part v level.One v.levels.one c.args.one (state_of c.self.inside.one) (state_of c.pass.new.on) cs refl ready.later first ready.one)
    (later-part v level.Two v.levels.two c.args.two (state_of c.self.inside.two) (state_of c.pass-2.new.on) cs refl ready.later second ready.two)))
