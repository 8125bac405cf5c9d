use Rattle.std.proofs.Common.{◌-◌, sym}
use Rattle.model_router.specs.Elections.{idle}
use Rattle.router_core.specs.Machines.{machine_of}
use Rattle.router_core.proofs.ShapeLemmas.{circuits-set}
use Rattle.router_core.proofs.parts.Parts.settle.Goals as goal

-- src/parts.rt
pub returns : goal.returns
returns c =
    circuits-set (λ config x. idle config (c.args.circuit - 1) x) (c.args.circuit - 1) c.idle_at.new.circuits.items
    (machine_of c.self.inside) c.args.self.now c.self.view_is
    (c.idle_at.ensures.state (machine_of c.self.inside).config (sym c.system-system.ensures))
