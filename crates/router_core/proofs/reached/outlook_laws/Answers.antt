use Rattle.model_router.specs.Events.{Event, Second, Take, Pull, Metric, Overload, Prefix}
use Rattle.model_router.specs.Routers.{Router}
use Rattle.router_core.specs.Givens.{given}
use Rattle.router_core.specs.Calm.{IsCalm, KeepsPrefixes}
use Rattle.router_core.proofs.CalmLemmas.{calm-kept}
use Rattle.router_core.proofs.ReachedLemmas.{outlook-kept}
use Rattle.router_core.proofs.reached.outlook_laws.Goals as goal

keeps : (r : Router) (event : Event) → IsCalm r event → KeepsPrefixes event
keeps r Second calm = tt
keeps r (Take place m) calm = tt
keeps r (Pull place) calm = tt
keeps r (Metric place metric) calm = tt
keeps r (Overload on) calm = tt
keeps r (Prefix prefix metric) calm = calm

pub returns : goal.returns
returns c = record { calm = λ r event reached calm. outlook-kept r event reached (calm-kept given r event calm) (keeps r event calm) }
