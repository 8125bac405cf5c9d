use Rattle.std.proofs.Common.{◌∙◌, ◌↔◌, List, ℕ, IfOk, subst}
use Rattle.std.specs.List.{Contains}
use Rattle.spf_tree.specs.declared.row.Row.{Row}
use Rattle.spf_tree.specs.Nodes.{node_number}
use Rattle.spf_tree.specs.NextHops.{IsNextHop}
use Rattle.spf_tree.proofs.next.next_hops.Goals as goal

pub returns-then-is_among-clause-hops : goal.returns-then-is_among-clause-hops
returns-then-is_among-clause-hops c =
    subst (λ (n : ℕ). IfOk c.hops_from.result (λ hops. (hop : ℕ) → Contains hops hop ↔ IsNextHop c.args.graph.now.rows (node_number c.args.root) n hop)) c.target_number-end.ensures.same
    (subst (λ (n : ℕ). IfOk c.hops_from.result (λ hops. (hop : ℕ) → Contains hops hop ↔ IsNextHop c.args.graph.now.rows n c.target_number-end.result hop)) c.number-start.ensures
    (subst (λ (rs : List Row). IfOk c.hops_from.result (λ hops. (hop : ℕ) → Contains hops hop ↔ IsNextHop rs c.number-start.result c.target_number-end.result hop)) c.indexed-rows.ensures c.hops_from.ensures.hops))

pub returns-in-Ok-clause-hops : goal.returns-in-Ok-clause-hops
returns-in-Ok-clause-hops c =
    subst (λ (n : ℕ). IfOk c.hops_from-in-Ok.result (λ hops. (hop : ℕ) → Contains hops hop ↔ IsNextHop c.args.graph.now.rows (node_number c.args.root) n hop)) c.target_number-end.ensures.same
    (subst (λ (n : ℕ). IfOk c.hops_from-in-Ok.result (λ hops. (hop : ℕ) → Contains hops hop ↔ IsNextHop c.args.graph.now.rows n c.target_number-end.result hop)) c.number-start.ensures
    (subst (λ (rs : List Row). IfOk c.hops_from-in-Ok.result (λ hops. (hop : ℕ) → Contains hops hop ↔ IsNextHop rs c.number-start.result c.target_number-end.result hop)) (c.in-Ok.ensures.rows ∙ c.indexed-rows.ensures) c.hops_from-in-Ok.ensures.hops))
