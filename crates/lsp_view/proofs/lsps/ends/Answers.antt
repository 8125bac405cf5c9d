use Rattle.std.proofs.Common.{◌≤◌, ℕ, sym, subst}
use Rattle.isis_base.specs.Identifiers.{lsp_number}
use Rattle.lsp_view.proofs.LspsLemmas.{ends-within}
use Rattle.lsp_view.proofs.lsps.ends.Goals as goal

-- src/lsps.rt
pub returns-clause-within : goal.returns-clause-within
returns-clause-within c =
    let within = ends-within c.args.id c.lsp_id_law.ensures in
    (subst (λ (n : ℕ). n ≤ lsp_number c.args.id) (sym c.to_number.ensures) within.0, subst (λ (n : ℕ). lsp_number c.args.id ≤ n) (sym c.to_number-2.ensures) within.1)
