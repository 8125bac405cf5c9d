use Rattle.model_router.specs.Steps.{step}
use Rattle.router_core.specs.Givens.{given}
use Rattle.router_core.proofs.KeepLemmas.{step-keeps}
use Rattle.router_core.proofs.SettledLemmas.{marks-keep}
use Rattle.router_core.proofs.marks.Marks.after.Goals as goal

-- src/marks.rt
pub returns : goal.returns
returns c = λ r event true aside stays calm. marks-keep c.args.self r (step given r event).router (step-keeps given r event calm aside) stays true
