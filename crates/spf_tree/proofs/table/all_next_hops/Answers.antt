use Rattle.std.proofs.Common.{◌∙◌, ◌↔◌, List, ℕ, IfOk, subst}
use Rattle.std.specs.List.{Contains}
use Rattle.spf_tree.specs.declared.row.Row.{Row}
use Rattle.spf_tree.specs.NextHops.{IsNextHop}
use Rattle.spf_tree.proofs.table.all_next_hops.Goals as goal

pub returns-then-is_among : goal.returns-then-is_among
returns-then-is_among c =
    subst (λ (n : ℕ). IfOk c.table_from.result (λ table. (target hop : ℕ) → Contains table (target, hop) ↔ IsNextHop c.args.graph.now.rows n target hop)) c.number-start.ensures
    (subst (λ (rs : List Row). IfOk c.table_from.result (λ table. (target hop : ℕ) → Contains table (target, hop) ↔ IsNextHop rs c.number-start.result target hop)) c.indexed-rows.ensures c.table_from.ensures)

pub returns-in-Ok : goal.returns-in-Ok
returns-in-Ok c =
    subst (λ (n : ℕ). IfOk c.table_from-in-Ok.result (λ table. (target hop : ℕ) → Contains table (target, hop) ↔ IsNextHop c.args.graph.now.rows n target hop)) c.number-start.ensures
    (subst (λ (rs : List Row). IfOk c.table_from-in-Ok.result (λ table. (target hop : ℕ) → Contains table (target, hop) ↔ IsNextHop rs c.number-start.result target hop)) (c.in-Ok.ensures.rows ∙ c.indexed-rows.ensures) c.table_from-in-Ok.ensures)
