use Rattle.router_routes.specs.Moved.{nodes_of, outlook_at}
use Rattle.router_routes.specs.Outlooks.{outlook_in}
use Rattle.router_routes.proofs.ComingLemmas.{levels-beside}
use Rattle.router_routes.proofs.following.Following.with_hops.Goals as goal

pub with_moved-requires-clause-levels : goal.with_moved-requires-clause-levels
with_moved-requires-clause-levels c =
    levels-beside (nodes_of c.args.told.now) c.in-Ok.nodes.items c.as_slice.result.now (outlook_in c.args.lent.now) (outlook_at c.args.view.now) c.args.self.now c.args.levels c.as_slice.ensures.value
    c.in-Ok.ensures.kept c.in-Ok.ensures.ids c.requires.beside c.in-Ok.ensures.one c.in-Ok.ensures.two c.requires.levels
