use Rattle.std.proofs.Common.{ap, ◌∙◌}
use Rattle.router_core.specs.Settled.{point_face}
use Rattle.router_core.proofs.faces.leaves_face.Goals as goal

-- src/faces.rt
pub returns-in-Some : goal.returns-in-Some
returns-in-Some c = λ e. c.are_alike.ensures e ∙ ap point_face c.in-Some.ensures.1
