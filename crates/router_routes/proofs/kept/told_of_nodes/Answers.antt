use Rattle.router_routes.proofs.SameLemmas.{told-by-nodes}
use Rattle.router_routes.proofs.kept.told_of_nodes.Goals as goal

pub returns : goal.returns
returns c =
    told-by-nodes c.args.view.now _ _ c.in-Ok.list.items c.add_level.new.list.items c.add_level-2.new.list.items c.has_level.result c.has_level-2.result c.has_level.ensures c.has_level-2.ensures c.in-Ok.ensures.items c.in_ok-add_level.ensures c.in_ok-add_level-2.ensures
