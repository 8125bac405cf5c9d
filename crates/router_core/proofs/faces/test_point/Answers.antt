use Rattle.model_router.specs.Adjacencies.{common_of, hear_point}
use Rattle.adjacency.specs.Views.{point_of}
use Rattle.router_circuits.specs.Hellos.{hello_of}
use Rattle.router_core.proofs.HelloLemmas.{face-of}
use Rattle.router_core.proofs.faces.test_point.Goals as goal

-- src/faces.rt
pub returns-in-Ok-clause-alike : goal.returns-in-Ok-clause-alike
returns-in-Ok-clause-alike c config is = λ e.
    let h = hello_of c.args.hello.now in
    face-of h.handshake c.args.circuit.now.point (point_of c.in-Ok.after) (λ shake. hear_point c.args.circuit.now.point (common_of config h) h shake)
    (c.in-Ok.ensures.after config is) (c.leaves_face.ensures e)
