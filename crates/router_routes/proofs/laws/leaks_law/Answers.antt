use Rattle.router_routes.proofs.LeakLemmas.{leaks-are}
use Rattle.router_routes.proofs.laws.leaks_law.Goals as goal

pub returns : goal.returns
returns c = leaks-are
