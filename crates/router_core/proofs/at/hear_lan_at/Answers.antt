use Rattle.std.proofs.Common.{◌≡◌, ◌-◌, Result, Ok, Err, IfOk, OnErr, ap, arith, refl}
use Rattle.std.proofs.lemmas.Result.{IfOk-weaker}
use Rattle.model_router.specs.Both.{alone, at, runs_of}
use Rattle.model_router.specs.Adjacencies.{common_of}
use Rattle.model_router.specs.Configs.{Config}
use Rattle.model_router.specs.Hellos.{lan_circuit}
use Rattle.model_router.specs.HelloTests.{lan_drop}
use Rattle.model_router.specs.Routers.{Circuit}
use Rattle.adjacency.specs.Changes.{IsTested}
use Rattle.model_router.specs.Numbers.{system_number}
use Rattle.router_circuits.specs.Hellos.{hello_of}
use Rattle.router_desk.specs.Desks.{desk_circuit}
use Rattle.router_core.specs.Machines.{IsFit}
use Rattle.router_core.proofs.ShapeLemmas.{set-keeps, set-all, fit-same, here-holds, lan-into, bare}
use Rattle.router_core.proofs.at.hear_lan_at.Goals as goal

-- src/at.rt
pub returns-clause-tested : goal.returns-clause-tested
returns-clause-tested c config own =
    IfOk-weaker c.hear_lan.result _ _ (λ heard h. here-holds (λ (x : Circuit). IsTested heard (lan_drop config c.args.level x.boots (at x.levels c.args.level).heard (hello_of c.args.hello.now)))
    c.args.circuits.now.items (c.from.result - 1) (c.args.circuit - 1) (omega (arith, c.from.ensures)) c.index_mut.result.now
    (omega (arith, c.requires.there, c.from.ensures)) c.index_mut.ensures.value h)
    (c.hear_lan.ensures.tested config own)

-- src/at.rt
pub returns-clause-state : goal.returns-clause-state
returns-clause-state c config own =
    IfOk-weaker c.hear_lan.result _ _ (λ heard h. lan-into heard (λ x. lan_circuit x c.args.level (alone c.args.level (common_of config (hello_of c.args.hello.now))) (hello_of c.args.hello.now))
    c.args.circuits.now.items (c.from.result - 1) (c.args.circuit - 1)
    (omega (arith, c.from.ensures)) c.index_mut.result.now
    c.hear_lan.new.self (omega (arith, c.requires.there, c.from.ensures)) c.index_mut.ensures.value
    h)
    (c.hear_lan.ensures.heard config own)

-- src/at.rt
pub returns-clause-same : goal.returns-clause-same
returns-clause-same c =
    set-keeps desk_circuit c.args.circuits.now.items (c.from.result - 1) c.index_mut.result.now
    c.hear_lan.new.self (omega (arith, c.requires.there, c.from.ensures)) c.index_mut.ensures.value
    (of c.hear_lan.result c.hear_lan.ensures.unchanged (c.hear_lan.ensures.heard config (record { system = refl; areas = refl; runs = refl })) c.hear_lan.ensures.err)
  where
    config : Config
    config = bare (system_number c.args.own.now.system) c.args.own.now.areas.now (runs_of c.args.own.now.levels)

    of : {R E F : Type 0} (q : Result (Result R E) F) → IfOk q (λ r. OnErr r (c.hear_lan.new.self ≡ c.index_mut.result.now)) → IfOk q (λ r. IfOk r (λ _. c.hear_lan.new.self ≡ lan_circuit c.index_mut.result.now c.args.level (alone c.args.level (common_of config (hello_of c.args.hello.now))) (hello_of c.args.hello.now))) → OnErr q (c.hear_lan.new.self ≡ c.index_mut.result.now) → desk_circuit c.hear_lan.new.self ≡ desk_circuit c.index_mut.result.now
    of (Ok (Ok v)) u k e = ap desk_circuit k
    of (Ok (Err b)) u k e = ap desk_circuit u
    of (Err b) u k e = ap desk_circuit e

-- src/at.rt
pub returns-clause-fit : goal.returns-clause-fit
returns-clause-fit c =
    set-all IsFit c.args.circuits.now.items (c.from.result - 1) c.index_mut.result.now
    c.hear_lan.new.self (omega (arith, c.requires.there, c.from.ensures)) c.index_mut.ensures.value
    (of c.hear_lan.result c.hear_lan.ensures.unchanged (c.hear_lan.ensures.heard config (record { system = refl; areas = refl; runs = refl })) c.hear_lan.ensures.err)
  where
    config : Config
    config = bare (system_number c.args.own.now.system) c.args.own.now.areas.now (runs_of c.args.own.now.levels)

    of : {R E F : Type 0} (q : Result (Result R E) F) → IfOk q (λ r. OnErr r (c.hear_lan.new.self ≡ c.index_mut.result.now)) → IfOk q (λ r. IfOk r (λ _. c.hear_lan.new.self ≡ lan_circuit c.index_mut.result.now c.args.level (alone c.args.level (common_of config (hello_of c.args.hello.now))) (hello_of c.args.hello.now))) → OnErr q (c.hear_lan.new.self ≡ c.index_mut.result.now) → IsFit c.index_mut.result.now → IsFit c.hear_lan.new.self
    of (Ok (Ok v)) u k e = fit-same c.index_mut.result.now c.hear_lan.new.self _ k refl refl
    of (Ok (Err b)) u k e = fit-same c.index_mut.result.now c.hear_lan.new.self _ u refl refl
    of (Err b) u k e = fit-same c.index_mut.result.now c.hear_lan.new.self _ e refl refl
