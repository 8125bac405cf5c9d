use Rattle.std.proofs.Common.{◌∙◌, ap}
use Rattle.model_router.specs.Both.{at}
use Rattle.router_routes.specs.Outlooks.{Outlook}
use Rattle.router_core.proofs.RouteLemmas.{outlook-runs}
use Rattle.router_core.proofs.parts.Parts.leaked.Goals as goal

-- src/renewal.rt
pub leaked-requires : goal.leaked-requires
leaked-requires c = ap (λ (o : Outlook). at o.runs c.args.level) c.lent.ensures ∙ outlook-runs c.args.self.now c.args.level ∙ c.requires.runs
