use Rattle.router_core.proofs.PlanLemmas.{drop-plan}
use Rattle.router_core.proofs.parts.Parts.plan_drop.Goals as goal

-- src/plan.rt
pub returns : goal.returns
returns c = drop-plan c.args.self.now c.args.cause c.args.marks c.requires
