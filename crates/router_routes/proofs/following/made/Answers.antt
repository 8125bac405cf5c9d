use Rattle.std.proofs.Common.{List, subst}
use Rattle.route_table.specs.declared.candidate.Candidate.{Candidate}
use Rattle.router_routes.specs.Candidates.{ways_of}
use Rattle.router_routes.specs.Moved.{outlook_at}
use Rattle.router_routes.specs.Ways.{AreWays}
use Rattle.router_routes.proofs.WayLemmas.{ways-same}
use Rattle.router_routes.proofs.following.made.Goals as goal

pub returns-clause-follows : goal.returns-clause-follows
returns-clause-follows c = record {
  one = c.requires.one;
  two = c.requires.two;
  hops_one = c.in_ok-tables.ensures.one;
  hops_two = c.in_ok-tables.ensures.two;
  routes = c.in_ok-tables.ensures.routes;
  attached = c.requires.reached.attached;
  told =
      ways-same c.in_ok-told.told.rows c.args.reached.told.items (ways_of (outlook_at c.args.view.now)) c.requires.reached.told
      (subst (λ (l : List Candidate). AreWays c.in_ok-told.told.rows l) c.as_slice.ensures.value c.in_ok-told.ensures);
}
