use Rattle.std.proofs.Common.{◌≡◌, IfOk, IfSome, subst}
use Rattle.model_router.specs.Adjacencies as model
use Rattle.model_router.specs.Routers.{Circuit}
use Rattle.adjacency.specs.Views.{point_of}
use Rattle.router_circuits.specs.Hellos.{hello_of}
use Rattle.router_circuits.proofs.circuit.Circuit.point_after.Goals as goal

pub returns-clause-after : goal.returns-clause-after
returns-clause-after c config is =
    let h = hello_of c.args.hello.now in
    subst (λ (x : Circuit). IfOk c.point_after.result (λ after. IfSome h.handshake (λ shake. point_of after ≡ model.hear_point x.point (model.common_of config h) h shake))) c.self.view_is
    (c.point_after.ensures.after config is)
