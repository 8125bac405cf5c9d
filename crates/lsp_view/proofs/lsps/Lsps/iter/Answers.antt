use Rattle.std.proofs.Common.{◌∙◌, ℕ, ap₂}
use Rattle.lsp_store.specs.Maps.{between}
use Rattle.lsp_view.specs.Lsps.{entries_in}
use Rattle.lsp_view.proofs.NodeLemmas.{between-all}
use Rattle.lsp_view.proofs.lsps.Lsps.iter.Goals as goal

-- src/lsps.rt
pub returns : goal.returns
returns c =
    let entries = entries_in c.args.self.now in
    c.range.ensures ∙ ap₂ (λ (s e : ℕ). between s e entries) c.from_number.ensures c.from_number-2.ensures ∙ between-all entries c.kept.ensures.ids
