use Rattle.std.proofs.Common.{refl, subst}
use Rattle.router_routes.specs.Coming.{IsPut}
use Rattle.router_routes.specs.Following.{FollowingOf}
use Rattle.router_routes.proofs.following.Following.put.Goals as goal

pub returns : goal.returns
returns c =
    let new : FollowingOf = record {
      levels = record { one = c.put_level.new.costs; two = c.put_level-2.new.costs };
      hops = record { one = c.put_level.new.hops; two = c.put_level-2.new.hops };
      routes = c.put.new.self;
      attached = c.args.coming.attached;
      told = c.put-2.new.self;
    } in
    subst (λ (f : FollowingOf). IsPut f c.args.coming new) c.self.view_is (record {
      one = c.put_level.ensures.costs;
      two = c.put_level-2.ensures.costs;
      hops_one = c.put_level.ensures.hops;
      hops_two = c.put_level-2.ensures.hops;
      routes = c.put.ensures;
      attached = refl;
      told = c.put-2.ensures;
    })
