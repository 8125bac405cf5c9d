use Rattle.router_routes.proofs.own.own_apart.Goals as goal

pub returns : goal.returns
returns c = λ prefixes have. c.past_first.ensures prefixes (c.before_last.ensures prefixes have)
