use Rattle.std.proofs.Common.{◌∙◌, ap}
use Rattle.router_circuits.specs.Hellos.{is_change}
use Rattle.router_circuits.proofs.ChangeLemmas.{point-second}
use Rattle.router_circuits.proofs.adjacencies.point_second.Goals as goal

pub returns-clause-over : goal.returns-clause-over
returns-clause-over c =
    let less = rw c.second.ensures.held at c.second.ensures.change in
    c.is_change.ensures ∙ ap is_change less ∙ point-second c.args.point.now
