use Rattle.std.proofs.Common.{ap, ◌∙◌, Some}
use Rattle.isis_base.specs.declared.identifiers.LspId.{LspId}
use Rattle.lsp_store.proofs.EditLemmas.{held-read}
use Rattle.lsp_store.proofs.places.value_at.Goals as goal

pub returns : goal.returns
returns g c =
    let read = rw c.pairs.ensures at c.index-pairs-at.is in
    held-read c.args.pages.now c.args.n c.args.at c.requires.at c.index-pages-at.result c.index-pages-at.is c.index-pairs-at.result read ∙ ap (λ (pair : LspId × _). Some pair.1) c.index-pairs-at.is
