use Rattle.std.proofs.Common.{length, ap, ◌∙◌, arith}
use Rattle.model_router.specs.Places.{nth}
use Rattle.model_network.specs.RunLines.{circuit_count}
use Rattle.network_lab.specs.LabNets.{LabNet}
use Rattle.network_lab.proofs.ReadLemmas.{circuits-is}
use Rattle.network_lab.proofs.network.Network.circuits.Goals as goal

pub returns : goal.returns
returns g c =
    let s = ap (λ (l : LabNet). length l.seen.routers) c.self.view_is in
    ap length c.as_slice.ensures
    ∙ (circuits-is c.self.inside.routers.items c.self.inside.ports.items c.args.router c.index.result.now c.self.invariant.routers (omega (arith, c.requires, s)) c.index.ensures
    ∙ ap (λ (l : LabNet). circuit_count (nth l.seen.routers c.args.router)) c.self.view_is)
