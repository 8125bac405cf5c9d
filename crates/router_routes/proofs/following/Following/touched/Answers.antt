use Rattle.std.proofs.Common.{ap, sym, subst}
use Rattle.std.specs.List.Sorted.{IsStrictlyIncreasing}
use Rattle.router_routes.specs.Following.{FollowingOf}
use Rattle.router_routes.specs.Moved.{outlook_at}
use Rattle.router_routes.specs.Outlooks.{outlook_in}
use Rattle.router_routes.proofs.PatchLemmas.{touched-are}
use Rattle.router_routes.proofs.following.Following.touched.Goals as goal

pub apart_beside-requires-clause-one : goal.apart_beside-requires-clause-one
apart_beside-requires-clause-one c = c.requires.levels.hops_one.apart

pub apart_beside-requires-clause-two : goal.apart_beside-requires-clause-two
apart_beside-requires-clause-two c = c.requires.levels.hops_two.apart

pub add_prefixes-requires : goal.add_prefixes-requires
add_prefixes-requires c = subst IsStrictlyIncreasing (sym c.as_slice-2.ensures.value) c.in_ok-beside.ensures.rising

pub returns : goal.returns
returns c =
    touched-are (outlook_in c.args.lent.now) (outlook_at c.args.view.now) c.args.self.now c.requires.follows c.args.nodes.now c.args.levels.now c.requires.still c.args.reached.now c.requires.reached c.in_ok-beside.beside.items c.as_slice-2.result.now c.in_ok-beside.ensures c.as_slice-2.ensures.value
    c.self.inside.told (ap (λ (f : FollowingOf). f.told) c.self.view_is) c.in_ok-prefixes.prefixes.items c.add_listed.new.prefixes.items c.add_prefixes.new.prefixes.items c.as_slice.result.now c.as_slice.ensures.value
    c.in_ok-prefixes.ensures.all c.in_ok-prefixes.ensures.own c.in_ok-add_listed.ensures c.in_ok-add_prefixes.ensures
