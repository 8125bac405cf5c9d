use Rattle.std.proofs.Common.{◌≡◌, ℕ, List, ap, sym, subst}
use Rattle.std.specs.List.Sorted.{IsStrictlyIncreasing}
use Rattle.route_table.specs.Patches.{is_moved}
use Rattle.router_routes.specs.Candidates.{ways_of}
use Rattle.router_routes.specs.Following.{FollowingOf}
use Rattle.router_routes.specs.Moved.{is_among}
use Rattle.router_routes.specs.Ways.{AreAtNumbers, AreWays, HaveRoom, WaysOf, put_all}
use Rattle.router_routes.proofs.GoneLemmas.{after-by, before-by, members, rows-are}
use Rattle.router_routes.proofs.following.Following.reached_of.Goals as goal

pub after-requires-clause-numbers : goal.after-requires-clause-numbers
after-requires-clause-numbers c = subst IsStrictlyIncreasing (sym c.as_slice.ensures.value) c.in_ok-numbers.ensures.rising

pub after-requires-clause-moved : goal.after-requires-clause-moved
after-requires-clause-moved c = subst IsStrictlyIncreasing (sym c.as_slice-2.ensures.value) c.in_order-moved.ensures.rising

pub returns : goal.returns
returns c = λ o p is both bit.
    let nodes = c.args.nodes.now in
    let f = c.args.self.now in
    let told : c.self.inside.told ≡ f.told = ap (λ (g : FollowingOf). g.told) c.self.view_is in
    let table = c.self.inside.told in
    let are : AreWays table.rows (ways_of o) = subst (λ (w : WaysOf). AreWays w.rows (ways_of o)) (sym told) is.told in
    let moved = subst (λ (l : List ℕ). (n : ℕ) → is_moved l n ≡ is_among nodes n) (sym c.as_slice-2.ensures.value) (members nodes c.in_ok-unsorted.unsorted.items c.in_order-moved.result.items c.in_ok-unsorted.ensures c.in_order-moved.ensures.all c.in_order-moved.ensures.none) in
    let numbers = c.as_slice.result.now in
    let left = c.apart.result.0.now in
    let right = c.apart.result.1.now in
    let rows = rows-are o p table.rows are nodes c.as_slice-2.result.now moved c.args.went.now c.args.come.now left right both c.apart.ensures numbers
    (subst (AreAtNumbers left) (sym c.as_slice.ensures.value) c.in_ok-numbers.ensures.some) (subst (AreAtNumbers right) (sym c.as_slice.ensures.value) c.in_ok-numbers.ensures.more) in
    record {
      right = record {
        told = subst (λ (w : WaysOf). AreWays (put_all w.rows c.in_ok-told.told.rows) (ways_of p)) told (subst (λ (r : List (ℕ × List _)). AreWays (put_all table.rows r) (ways_of p)) (sym c.in_ok-told.ensures.rows) rows);
        room = subst (λ (w : WaysOf). HaveRoom w c.in_ok-told.told) told c.in_ok-told.ensures.room;
        attached = bit;
      };
      before = before-by nodes (ways_of o) c.args.went.now c.args.come.now left right c.in_ok-prefixes.prefixes.items both.before c.apart.ensures c.in_ok-prefixes.ensures;
      after = after-by nodes (ways_of o) (ways_of p) c.args.come.now left c.in_ok-prefixes.prefixes.items both.after c.in_ok-prefixes.ensures;
    }
