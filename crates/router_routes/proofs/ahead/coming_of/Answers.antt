use Rattle.std.proofs.Common.{refl}
use Rattle.router_routes.proofs.ComingLemmas.{coming-is}
use Rattle.router_routes.proofs.ahead.coming_of.Goals as goal

pub returns : goal.returns
returns c = λ o f are reached routes. coming-is o f _ c.args.reached refl refl are reached routes
