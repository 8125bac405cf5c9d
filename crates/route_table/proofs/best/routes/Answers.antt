use Rattle.std.proofs.Common.{◌↔◌, ℕ, subst}
use Rattle.std.specs.List.{Contains}
use Rattle.isis_base.specs.declared.identifiers.NodeId.{NodeId}
use Rattle.spf_tree.specs.Nodes.{node_number}
use Rattle.spf_tree.specs.NextHops.{IsNextHop}
use Rattle.route_table.specs.Routes.{IsHopTo}
use Rattle.route_table.specs.Order.{IsListedHop}
use Rattle.route_table.proofs.HopLemmas.{tabled_is}
use Rattle.route_table.proofs.OrderLemmas.{routes_by}
use Rattle.route_table.proofs.best.routes.Goals as goal

pub returns-in-Ok-routes_by : goal.returns-in-Ok-routes_by
returns-in-Ok-routes_by c =
    let one = c.args.one.now in
    let two = c.args.two.now in
    let t = c.in-Ok.hops in
    let u = c.in-Ok-all_next_hops.hops in
    let of_one : (target hop : ℕ) → Contains t (target, hop) ↔ IsNextHop one.rows (node_number one.root) target hop = subst (λ (n : NodeId). (target hop : ℕ) → Contains t (target, hop) ↔ IsNextHop one.rows (node_number n) target hop) c.root.ensures c.in-Ok.ensures in
    let of_two : (target hop : ℕ) → Contains u (target, hop) ↔ IsNextHop two.rows (node_number two.root) target hop =
    subst (λ (n : NodeId). (target hop : ℕ) → Contains u (target, hop) ↔ IsNextHop two.rows (node_number n) target hop) c.root-2.ensures c.in-Ok-all_next_hops.ensures in
    routes_by (IsListedHop t u) (IsHopTo one two) c.args.candidates.now c.args.candidates.now c.in-Ok-routes_by.routes (λ candidate h. h) (λ candidate h. h) (tabled_is one two t u of_one of_two) c.in-Ok-routes_by.ensures
