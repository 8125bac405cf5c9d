use Rattle.std.proofs.Common.{◌≡◌, ◌-◌, false}
use Rattle.model_router.specs.Adjacencies.{common_of}
use Rattle.model_router.specs.Both.{alone, at}
use Rattle.model_router.specs.Events.{Done, settled}
use Rattle.model_router.specs.HelloTests.{lan_drop}
use Rattle.model_router.specs.Places.{nth}
use Rattle.model_router.specs.Hellos.{lan_circuit, take_lan}
use Rattle.model_router.specs.Routers.{with_circuit}
use Rattle.router_circuits.specs.Hellos.{hello_of}
use Rattle.router_circuits.proofs.ChangeLemmas.{ok-of}
use Rattle.router_core.proofs.HelloLemmas.{none-refused}
use Rattle.router_core.proofs.IdleLemmas.{each-some, from-some, heard-with}
use Rattle.router_core.proofs.parts.Parts.take_lan.Goals as goal

-- src/hellos.rt
pub unreachable-requires : goal.unreachable-requires
unreachable-requires c =
    let r = c.args.self.now in
    none-refused r c.args.circuit (λ y. lan_drop r.config c.args.level y.boots (at y.levels c.args.level).heard (hello_of c.args.hello.now)) _ _ c.in-Err.is c.requires.there c.in_ok-hear_lan.ensures.tested c.requires.passes

-- src/hellos.rt
pub returns-clause-state : goal.returns-clause-state
unfolding take_lan
returns-clause-state c =
    each-some (nth c.args.self.now.circuits (c.args.circuit - 1)) (λ x. c.settle.new.self ≡ (settled (record { router = take_lan c.args.self.now (c.args.circuit - 1) x c.args.level (hello_of c.args.hello.now); reply = Done })).router)
    (λ x e. heard-with c.args.self.now c.hear_lan.new.self c.follow.new.self c.settle.new.self Done false (c.args.circuit - 1) x
    (lan_circuit x c.args.level (alone c.args.level (common_of c.args.self.now.config (hello_of c.args.hello.now))) (hello_of c.args.hello.now)) c.requires.idle e
    (from-some (λ y. c.hear_lan.new.self ≡ with_circuit c.args.self.now (c.args.circuit - 1) (lan_circuit y c.args.level (alone c.args.level (common_of c.args.self.now.config (hello_of c.args.hello.now))) (hello_of c.args.hello.now))) (nth c.args.self.now.circuits (c.args.circuit - 1)) x e (ok-of _ c.in-Ok.is c.in_ok-hear_lan.ensures.state))
    c.follow.ensures c.settle.ensures)
