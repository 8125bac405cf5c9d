use Rattle.std.proofs.Common.{◌∙◌, Bool, List, is_some, IfOk, map, ap, subst}
use Rattle.std.proofs.lemmas.Result.{IfOk-weaker}
use Rattle.model_router.specs.Routers.{level_of}
use Rattle.router_wanted.specs.declared.wanted.Wanted.{Wanted}
use Rattle.router_wanted.specs.Views.{wanted_of}
use Rattle.router_core.specs.LevelSeconds.{IsCalmWith, IsLevelSecond}
use Rattle.router_core.proofs.IdleLemmas.{from-some}
use Rattle.router_core.proofs.PassedLemmas.{calm-second, resting-second}
use Rattle.router_core.proofs.parts.Parts.level_second.Goals as goal

-- src/plan_second.rt
pub returns-then-rests : goal.returns-then-rests
returns-then-rests c = resting-second (is_some c.args.following) c.args.self.now c.args.level c.args.circuits.now (c.rests.ensures c.if-rests.true) (c.requires.marked c.if-marked.true)

-- src/plan_second.rt
pub returns-in-Ok-Some : goal.returns-in-Ok-Some
returns-in-Ok-Some c =
    let r = c.args.self.now in
    let l = c.args.level in
    let wants = map wanted_of c.deref.result.now in
    calm-second (is_some c.args.following) r l c.args.circuits.now wants c.in-Ok-Some.settled
    (from-some (λ (settled : Bool). IsCalmWith (level_of r l) wants settled) c.in-Ok-Some.field-0 c.in-Ok-Some.settled c.in-Ok-Some.field-0-is c.in-Ok-Some.ensures)
    (λ q a b. ap (λ (ws : List Wanted). map wanted_of ws) c.deref.ensures.value ∙ c.in_ok-wanted.ensures.wanted q a b)

-- src/plan_second.rt
pub returns-in-Ok-None : goal.returns-in-Ok-None
returns-in-Ok-None c =
    subst (λ (asked : Bool). IfOk c.level_renewed.result (IsLevelSecond asked c.args.self.now c.args.level c.args.circuits.now)) c.is_some.ensures
    (IfOk-weaker c.level_renewed.result _ _
    (λ second is. is c.args.circuits.now (λ q a b. c.in_ok-wanted.ensures.wanted q a b))
    c.level_renewed.ensures)
