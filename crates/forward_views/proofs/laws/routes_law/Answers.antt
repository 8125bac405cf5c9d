use Rattle.forward_views.proofs.RouteLemmas.{routes_fall}
use Rattle.forward_views.proofs.laws.routes_law.Goals as goal

pub returns : goal.returns
returns c = routes_fall
