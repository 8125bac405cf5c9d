use Rattle.std.proofs.Common.{◌∙◌}
use Rattle.isis_base.specs.Identifiers.{lsp_number}
use Rattle.lsp_fragments.specs.Kept.{kept_id}
use Rattle.lsp_fragments.proofs.FromLemmas.{from-place, from-gap}
use Rattle.lsp_fragments.proofs.ShownLemmas.{first-behind}
use Rattle.lsp_fragments.proofs.by_id.id_from.Goals as goal

pub returns-in-Ok : goal.returns-in-Ok
returns-in-Ok c =
    c.id_at.ensures ∙ first-behind c.args.list.now (lsp_number c.args.start) c.in-Ok.at (from-place kept_id c.args.list.now (lsp_number c.args.start) c.in-Ok.at c.in-Ok.ensures)

pub returns-in-Err : goal.returns-in-Err
returns-in-Err c =
    c.id_at-in-Err.ensures ∙ first-behind c.args.list.now (lsp_number c.args.start) c.in-Err.at (from-gap kept_id c.args.list.now (lsp_number c.args.start) c.in-Err.at c.in-Err.ensures)
