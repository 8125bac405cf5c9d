use Rattle.std.proofs.Common.{◌≡◌, ◌-◌, ◌&&◌, not, Option, Some, None, IfSome, Bool, Result, subst}
use Rattle.model_router.specs.Adjacencies.{common_of, is_same, Handshake}
use Rattle.model_router.specs.Drops.{or_else}
use Rattle.model_router.specs.declared.drop_name.DropName.{DropName}
use Rattle.model_router.specs.declared.drop_name.DropName.TheVariants.{NoThreeWay}
use Rattle.model_router.specs.Events.{Done, settled}
use Rattle.model_router.specs.HelloTests.{hello_drop, shake_drop, full_drop, point_drop}
use Rattle.model_router.specs.Places.{nth}
use Rattle.model_router.specs.Hellos.{point_circuit, take_point, follow}
use Rattle.model_router.specs.Receiving.{greeted}
use Rattle.model_router.specs.Routers.{Circuit, with_circuit, extended_of}
use Rattle.router_circuits.specs.Hellos.{hello_of}
use Rattle.router_core.proofs.ShapeLemmas.{has-shake}
use Rattle.adjacency.specs.Changes.{IsTested}
use Rattle.adjacency.specs.declared.hello.HelloDrop.{HelloDrop}
use Rattle.router_circuits.proofs.ChangeLemmas.{ok-of}
use Rattle.router_core.proofs.HelloLemmas.{none-refused}
use Rattle.router_core.proofs.IdleLemmas.{each-some, from-some, heard-with}
use Rattle.router_core.proofs.parts.Parts.take_point.Goals as goal

-- src/hellos.rt
pub unreachable-requires : goal.unreachable-requires
unreachable-requires c =
    let r = c.args.self.now in
    none-refused r c.args.circuit (λ y. point_drop r.config (extended_of r.boot (c.args.circuit - 1)) y.boots (hello_of c.args.hello.now)) _ _ c.in-Err.is c.requires.there c.in_ok-anew.ensures.tested c.requires.passes

-- src/hellos.rt
pub returns-clause-state : goal.returns-clause-state
unfolding take_point
returns-clause-state c =
    each-some (nth c.args.self.now.circuits (c.args.circuit - 1)) (λ x. c.settle.new.self ≡ (settled (record { router = greeted c.args.self.now (c.args.circuit - 1) x (hello_of c.args.hello.now) (hello_of c.args.hello.now).handshake; reply = Done })).router)
    (λ x e. of (hello_of c.args.hello.now).handshake x e
    (from-some (λ y. point_drop c.args.self.now.config (extended_of c.args.self.now.boot (c.args.circuit - 1)) y.boots (hello_of c.args.hello.now) ≡ None) (nth c.args.self.now.circuits (c.args.circuit - 1)) x e (subst (λ (heard : Result Bool HelloDrop). IfSome (nth c.args.self.now.circuits (c.args.circuit - 1)) (λ y. IsTested heard (point_drop c.args.self.now.config (extended_of c.args.self.now.boot (c.args.circuit - 1)) y.boots (hello_of c.args.hello.now)))) c.in-Ok.is c.in_ok-anew.ensures.tested))
    (from-some (λ y. Met (hello_of c.args.hello.now).handshake y) (nth c.args.self.now.circuits (c.args.circuit - 1)) x e (ok-of _ c.in-Ok.is c.in_ok-anew.ensures.state)))
  where
    Met : Option Handshake → Circuit → Type 0
    Met o y = IfSome o (λ shake. (c.hear_point.new.self ≡ with_circuit c.args.self.now (c.args.circuit - 1) (point_circuit y (common_of c.args.self.now.config (hello_of c.args.hello.now)) (hello_of c.args.hello.now) shake)) × (c.in-Ok.anew ≡ not (is_same y.point.neighbour (common_of c.args.self.now.config (hello_of c.args.hello.now)) (hello_of c.args.hello.now) shake.extended)))

    tests : Circuit → Option DropName
    tests x = hello_drop c.args.self.now.config x.boots (common_of c.args.self.now.config (hello_of c.args.hello.now)) (c.args.self.now.config.runs.one && (hello_of c.args.hello.now).runs.one) (hello_of c.args.hello.now)

    of : (o : Option Handshake) (x : Circuit) → nth c.args.self.now.circuits (c.args.circuit - 1) ≡ Some x
        → or_else (or_else (tests x) (shake_drop c.args.self.now.config (extended_of c.args.self.now.boot (c.args.circuit - 1)) o)) (full_drop x.boots (hello_of c.args.hello.now).source) ≡ None
        → Met o x
        → c.settle.new.self ≡ (settled (record { router = greeted c.args.self.now (c.args.circuit - 1) x (hello_of c.args.hello.now) o; reply = Done })).router
    of None x e t m = absurd (has-shake (tests x) NoThreeWay (full_drop x.boots (hello_of c.args.hello.now).source) t)
    of (Some shake) x e t m =
        heard-with c.args.self.now c.hear_point.new.self c.follow.new.self c.settle.new.self Done
        (not (is_same x.point.neighbour (common_of c.args.self.now.config (hello_of c.args.hello.now)) (hello_of c.args.hello.now) shake.extended))
        (c.args.circuit - 1) x (point_circuit x (common_of c.args.self.now.config (hello_of c.args.hello.now)) (hello_of c.args.hello.now) shake) c.requires.idle e m.0
        (subst (λ (anew : Bool). IfSome (nth c.hear_point.new.self.circuits (c.args.circuit - 1)) (λ y. c.follow.new.self ≡ follow c.hear_point.new.self anew (c.args.circuit - 1) y)) m.1 c.follow.ensures)
        c.settle.ensures
