use Rattle.std.proofs.Common.{Bool, ◌∙◌, ap}
use Rattle.model_router.specs.Both.{at}
use Rattle.model_router.specs.Pulls as pulls
use Rattle.model_router.specs.Routers.{CircuitLevel}
use Rattle.router_circuits.proofs.circuit.Circuit.csnp_sent.Goals as goal

pub returns : goal.returns
returns c =
    let part = at c.args.self.now.levels c.args.level in
    let sent = c.csnp_sent-sent.ensures part.heard in
    let told = ap (λ (p : CircuitLevel). pulls.csnp_sent c.is_lan.result p) c.timers.ensures in
    let lan = ap (λ (b : Bool). pulls.csnp_sent b part) c.is_lan.ensures in
    c.set_timers.ensures
    ∙ ap (λ (p : CircuitLevel). pulls.with_part c.args.self.now c.args.level p) (sent ∙ told ∙ lan)
