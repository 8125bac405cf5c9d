use Rattle.router_routes.proofs.ApartLemmas.{apart-all}
use Rattle.router_routes.proofs.apart.apart.Goals as goal

pub returns : goal.returns
returns c =
    let left = c.before_last.result.0.now in
    let right = c.before_last.result.1.now in
    c.past_first.ensures left right (c.before_last.ensures left right (apart-all left right))
