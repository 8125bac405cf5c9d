use Rattle.std.proofs.Common.{◌≡◌, ◌∙◌, ℕ, true, List, map, ap, sym, subst}
use Rattle.isis_base.specs.Prefixes.{prefix_number}
use Rattle.std.specs.List.Sorted.{IsStrictlyIncreasing}
use Rattle.route_table.specs.Order.{IsListedHop}
use Rattle.route_table.specs.Patches.{ArePatches, IsListed, is_moved}
use Rattle.router_routes.specs.Candidates.{ways_of}
use Rattle.router_routes.specs.Coming.{hops_after}
use Rattle.router_routes.specs.Following.{FollowingOf}
use Rattle.router_routes.specs.Moved.{outlook_at}
use Rattle.router_routes.specs.Outlooks.{outlook_in}
use Rattle.router_routes.specs.Ways.{AreWays, WaysOf, put_all}
use Rattle.router_routes.proofs.PatchLemmas.{all-three, listed-moved, routes-after}
use Rattle.router_routes.proofs.following.Following.routes_after.Goals as goal

pub candidates_for-requires-clause-told : goal.candidates_for-requires-clause-told
candidates_for-requires-clause-told c =
    subst (λ (w : WaysOf). AreWays (put_all w.rows c.args.reached.now.told.rows) (ways_of (outlook_at c.args.view.now))) (sym (ap (λ (f : FollowingOf). f.told) c.self.view_is)) c.requires.reached.right.told

pub candidates_for-requires-clause-attached : goal.candidates_for-requires-clause-attached
candidates_for-requires-clause-attached c = c.requires.reached.right.attached

pub candidates_for-requires-clause-rising : goal.candidates_for-requires-clause-rising
candidates_for-requires-clause-rising c = subst IsStrictlyIncreasing (sym c.as_slice-2.ensures.value) c.in_order-numbers.ensures.rising

pub returns : goal.returns
returns c =
    let f = c.args.self.now in
    let levels = c.args.levels.now in
    let o = outlook_in c.args.lent.now in
    let p = outlook_at c.args.view.now in
    let prefixes = c.in_ok-prefixes.prefixes.items in
    let part = c.in_ok-candidates.candidates.items in
    let some = c.as_slice-3.result.now in
    let numbers = c.as_slice-2.result.now in
    let one = c.newest_hops-one.ensures ∙ ap (λ (g : FollowingOf). hops_after levels.one g.hops.one) c.self.view_is in
    let two = c.newest_hops-two.ensures ∙ ap (λ (g : FollowingOf). hops_after levels.two g.hops.two) c.self.view_is in
    let unsorted = c.in_ok-unsorted.ensures ∙ ap (map prefix_number) c.as_slice.ensures.value in
    let moved = subst (λ (l : List ℕ). (n : ℕ) → IsListed prefixes n → is_moved l n ≡ true) (sym c.as_slice-2.ensures.value) (listed-moved prefixes c.in_ok-unsorted.unsorted.items c.in_order-numbers.result.items unsorted c.in_order-numbers.ensures.all) in
    all-three c.patches_for.result _ _ _ _ (λ patches are touched room.
    routes-after o p f c.requires.follows c.args.nodes.now levels c.requires.still c.requires.levels prefixes c.in_ok-prefixes.ensures c.routes.result.now part some numbers patches c.routes.ensures moved c.in_ok-candidates.ensures c.as_slice-3.ensures.value
    (subst (λ (t : List (ℕ × ℕ)). ArePatches (IsListedHop (hops_after levels.one f.hops.one) t) some patches.list) two
    (subst (λ (t : List (ℕ × ℕ)). ArePatches (IsListedHop t c.newest_hops-two.result.now) some patches.list) one are)) touched room) c.patches_for.ensures.patches c.patches_for.ensures.touched c.patches_for.ensures.room
