use Rattle.router_routes.proofs.SameLemmas.{lent-have}
use Rattle.router_routes.proofs.kept.lent_ids.Goals as goal

pub returns : goal.returns
returns c = lent-have c.args.lent.now c.len-one.ensures.ids c.len-two.ensures.ids
