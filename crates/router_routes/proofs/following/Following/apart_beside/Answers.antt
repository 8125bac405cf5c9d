use Rattle.std.proofs.Common.{sym, subst}
use Rattle.std.specs.List.Sorted.{IsStrictlyIncreasing}
use Rattle.router_routes.proofs.GoneLemmas.{members}
use Rattle.router_routes.proofs.PatchLemmas.{apart-are}
use Rattle.router_routes.proofs.following.Following.apart_beside.Goals as goal

pub add_apart-requires : goal.add_apart-requires
add_apart-requires c = subst IsStrictlyIncreasing (sym c.as_slice.ensures.value) c.in_order-moved.ensures.rising

pub add_apart-requires-2 : goal.add_apart-requires-2
add_apart-requires-2 c = subst IsStrictlyIncreasing (sym c.as_slice-2.ensures.value) c.in_order-moved.ensures.rising

pub returns : goal.returns
returns c =
    let nodes = c.args.nodes.now in
    let moved = c.in_order-moved.result.items in
    apart-are nodes c.args.self.now c.args.levels.now moved c.as_slice.result.now c.as_slice-2.result.now c.new-beside.result.items c.add_apart.new.numbers.items c.add_apart-2.new.numbers.items c.in_order.result.items
    (members nodes c.in_ok-unsorted.unsorted.items moved c.in_ok-unsorted.ensures c.in_order-moved.ensures.all c.in_order-moved.ensures.none) c.as_slice.ensures.value c.as_slice-2.ensures.value
    c.in_ok-add_apart.ensures c.in_ok-add_apart-2.ensures c.in_order.ensures.all c.in_order.ensures.rising c.requires.one c.requires.two
