use Rattle.std.proofs.Common.{◌≡◌, ◌-◌, true, IfOk, arith}
use Rattle.model_router.specs.Routers.{Circuit}
use Rattle.router_circuits.specs.Hellos.{hello_of}
use Rattle.router_core.specs.Settled.{LeavesFace}
use Rattle.router_core.proofs.ShapeLemmas.{here-holds}
use Rattle.router_core.proofs.at.test_point_at.Goals as goal

-- src/at.rt
pub returns-clause-alike : goal.returns-clause-alike
returns-clause-alike c config own =
    here-holds (λ (x : Circuit). IfOk c.test_point.result (λ alike. alike ≡ true → LeavesFace x config (hello_of c.args.hello.now)))
    c.args.circuits.now (c.from.result - 1) (c.args.circuit - 1) (omega (arith, c.from.ensures)) c.index-circuits-from.result
    (omega (arith, c.requires.there, c.from.ensures)) c.index-circuits-from.is (c.test_point.ensures.alike config own)
