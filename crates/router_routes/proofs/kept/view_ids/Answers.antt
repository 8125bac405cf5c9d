use Rattle.router_routes.proofs.SameLemmas.{view-have}
use Rattle.router_routes.proofs.kept.view_ids.Goals as goal

pub returns : goal.returns
returns c = view-have c.args.view.now c.len-one.ensures.ids c.len-two.ensures.ids c.requires
