use Rattle.router_routes.specs.Moved.{nodes_of, outlook_at}
use Rattle.router_routes.specs.Outlooks.{outlook_in}
use Rattle.router_routes.proofs.AheadLemmas.{nodes-one, nodes-two}
use Rattle.router_routes.proofs.SameLemmas.{beside-more}
use Rattle.router_routes.proofs.following.Following.with_nodes.Goals as goal

pub next-requires-clause-beside : goal.next-requires-clause-beside
next-requires-clause-beside c =
    beside-more (nodes_of c.args.told.now) c.in-Some-None.one.nodes.now (outlook_in c.args.lent.now) (outlook_at c.args.view.now) (nodes-one c.args.told.now c.in-Some-None.one c.in-Some-None.is-0 c.in-Some-None.is-1) c.requires.beside

pub next-requires-in-None-Some-clause-beside : goal.next-requires-in-None-Some-clause-beside
next-requires-in-None-Some-clause-beside c =
    beside-more (nodes_of c.args.told.now) c.in-None-Some.two.nodes.now (outlook_in c.args.lent.now) (outlook_at c.args.view.now) (nodes-two c.args.told.now c.in-None-Some.two c.in-None-Some.is-0 c.in-None-Some.is-1) c.requires.beside
