use Rattle.router_core.specs.Events.{event_of}
use Rattle.network_lab.specs.LabInside.{shape_of}
use Rattle.network_lab.proofs.PlaceLemmas.{set-keeps}
use Rattle.network_lab.proofs.StepLemmas.{step-kept}
use Rattle.network_lab.proofs.taking.step_at.Goals as goal

pub returns-clause-shapes : goal.returns-clause-shapes
returns-clause-shapes g c =
    set-keeps shape_of c.args.routers.now.items c.args.router c.index_mut.result.now c.step.new.self c.requires.there c.index_mut.ensures.value
    (step-kept c.step.result c.index_mut.result.now c.step.new.self (event_of c.index_mut.result.now c.args.event) c.step.ensures.state c.step.ensures.err)
