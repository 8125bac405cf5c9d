use Rattle.std.proofs.Common.{◌∙◌, ◌↔◌, List, ℕ, IfOk, subst}
use Rattle.std.specs.List.{Contains}
use Rattle.spf_tree.proofs.table.HopTable.hops.Goals as goal

pub returns-clause-hops : goal.returns-clause-hops
returns-clause-hops c =
    subst (λ (n : ℕ). IfOk c.hops_beside.result (λ hops. (hop : ℕ) → Contains hops hop ↔ Contains c.args.self.now (n, hop))) c.number.ensures
    (subst (λ (ps : List (ℕ × ℕ)). IfOk c.hops_beside.result (λ hops. (hop : ℕ) → Contains hops hop ↔ Contains ps (c.number.result, hop))) (c.as_slice.ensures.value ∙ c.self.view_is) c.hops_beside.ensures.hops)
