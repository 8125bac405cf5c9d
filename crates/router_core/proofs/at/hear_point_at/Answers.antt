use Rattle.std.proofs.Common.{◌≡◌, ◌-◌, Bool, not, Result, Ok, Err, IfOk, IfSome, OnErr, ap, arith, refl}
use Rattle.std.proofs.lemmas.Result.{IfOk-weaker}
use Rattle.isis_base.specs.declared.memory.OutOfMemory.{OutOfMemory}
use Rattle.adjacency.specs.Changes.{IsTested}
use Rattle.adjacency.specs.declared.hello.HelloDrop.{HelloDrop}
use Rattle.model_router.specs.Adjacencies.{common_of, is_same}
use Rattle.model_router.specs.Configs.{Config}
use Rattle.model_router.specs.Hellos.{point_circuit}
use Rattle.model_router.specs.HelloTests.{point_drop}
use Rattle.model_router.specs.Routers.{Circuit}
use Rattle.model_router.specs.Numbers.{system_number}
use Rattle.model_router.specs.Both.{runs_of}
use Rattle.router_circuits.specs.Hellos.{hello_of, IsOwn}
use Rattle.router_desk.specs.Desks.{desk_circuit}
use Rattle.router_core.specs.Machines.{IsFit}
use Rattle.router_core.proofs.ShapeLemmas.{set-keeps, set-all, fit-same, here-holds, ok-both, point-into, point-keeps, bare}
use Rattle.router_core.proofs.at.hear_point_at.Goals as goal

-- src/at.rt
pub returns-clause-tested : goal.returns-clause-tested
returns-clause-tested c config own =
    IfOk-weaker c.hear_point.result _ _ (λ heard h. here-holds (λ (x : Circuit). IsTested heard (point_drop config c.args.own.now.id x.boots (hello_of c.args.hello.now)))
    c.args.circuits.now.items (c.from.result - 1) (c.args.circuit - 1) (omega (arith, c.from.ensures)) c.index_mut.result.now
    (omega (arith, c.requires.there, c.from.ensures)) c.index_mut.ensures.value h)
    (c.hear_point.ensures.tested config own)

-- src/at.rt
pub returns-clause-state : goal.returns-clause-state
returns-clause-state c config own =
    IfOk-weaker c.hear_point.result _ _ (λ heard both. point-into heard (hello_of c.args.hello.now).handshake
    (λ x shake. point_circuit x (common_of config (hello_of c.args.hello.now)) (hello_of c.args.hello.now) shake)
    (λ x shake. not (is_same x.point.neighbour (common_of config (hello_of c.args.hello.now)) (hello_of c.args.hello.now) shake.extended))
    c.args.circuits.now.items (c.from.result - 1) (c.args.circuit - 1)
    (omega (arith, c.from.ensures)) c.index_mut.result.now
    c.hear_point.new.self (omega (arith, c.requires.there, c.from.ensures)) c.index_mut.ensures.value
    both.0 both.1)
    (ok-both _ _ c.hear_point.result (c.hear_point.ensures.heard config own) (c.hear_point.ensures.anew config own))

-- src/at.rt
pub returns-clause-same : goal.returns-clause-same
returns-clause-same c =
    set-keeps desk_circuit c.args.circuits.now.items (c.from.result - 1) c.index_mut.result.now
    c.hear_point.new.self (omega (arith, c.requires.there, c.from.ensures)) c.index_mut.ensures.value
    (of c.hear_point.result c.hear_point.ensures.unchanged (c.hear_point.ensures.tested config own) (c.hear_point.ensures.heard config own) c.hear_point.ensures.err)
  where
    config : Config
    config = bare (system_number c.args.own.now.system) c.args.own.now.areas.now (runs_of c.args.own.now.levels)

    own : IsOwn config c.args.own.now
    own = record { system = refl; areas = refl; runs = refl }

    of : (q : Result (Result Bool HelloDrop) OutOfMemory) → IfOk q (λ r. OnErr r (c.hear_point.new.self ≡ c.index_mut.result.now)) → IfOk q (λ r. IsTested r (point_drop config c.args.own.now.id c.index_mut.result.now.boots (hello_of c.args.hello.now))) → IfOk q (λ r. IfOk r (λ _. IfSome (hello_of c.args.hello.now).handshake (λ shake. c.hear_point.new.self ≡ point_circuit c.index_mut.result.now (common_of config (hello_of c.args.hello.now)) (hello_of c.args.hello.now) shake))) → OnErr q (c.hear_point.new.self ≡ c.index_mut.result.now) → desk_circuit c.hear_point.new.self ≡ desk_circuit c.index_mut.result.now
    of (Ok (Ok v)) u t k e = point-keeps (λ y. desk_circuit y ≡ desk_circuit c.index_mut.result.now) config c.args.own.now.id c.index_mut.result.now.boots (hello_of c.args.hello.now) (common_of config (hello_of c.args.hello.now)) c.index_mut.result.now c.hear_point.new.self t k (λ s f. ap desk_circuit f)
    of (Ok (Err b)) u t k e = ap desk_circuit u
    of (Err b) u t k e = ap desk_circuit e

-- src/at.rt
pub returns-clause-fit : goal.returns-clause-fit
returns-clause-fit c =
    set-all IsFit c.args.circuits.now.items (c.from.result - 1) c.index_mut.result.now
    c.hear_point.new.self (omega (arith, c.requires.there, c.from.ensures)) c.index_mut.ensures.value
    (of c.hear_point.result c.hear_point.ensures.unchanged (c.hear_point.ensures.tested config own) (c.hear_point.ensures.heard config own) c.hear_point.ensures.err)
  where
    config : Config
    config = bare (system_number c.args.own.now.system) c.args.own.now.areas.now (runs_of c.args.own.now.levels)

    own : IsOwn config c.args.own.now
    own = record { system = refl; areas = refl; runs = refl }

    of : (q : Result (Result Bool HelloDrop) OutOfMemory) → IfOk q (λ r. OnErr r (c.hear_point.new.self ≡ c.index_mut.result.now)) → IfOk q (λ r. IsTested r (point_drop config c.args.own.now.id c.index_mut.result.now.boots (hello_of c.args.hello.now))) → IfOk q (λ r. IfOk r (λ _. IfSome (hello_of c.args.hello.now).handshake (λ shake. c.hear_point.new.self ≡ point_circuit c.index_mut.result.now (common_of config (hello_of c.args.hello.now)) (hello_of c.args.hello.now) shake))) → OnErr q (c.hear_point.new.self ≡ c.index_mut.result.now) → IsFit c.index_mut.result.now → IsFit c.hear_point.new.self
    of (Ok (Ok v)) u t k e = point-keeps (λ y. IsFit c.index_mut.result.now → IsFit y) config c.args.own.now.id c.index_mut.result.now.boots (hello_of c.args.hello.now) (common_of config (hello_of c.args.hello.now)) c.index_mut.result.now c.hear_point.new.self t k (λ s f. fit-same c.index_mut.result.now c.hear_point.new.self _ f refl refl)
    of (Ok (Err b)) u t k e = fit-same c.index_mut.result.now c.hear_point.new.self _ u refl refl
    of (Err b) u t k e = fit-same c.index_mut.result.now c.hear_point.new.self _ e refl refl
