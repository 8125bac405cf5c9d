use Rattle.std.proofs.Common.{◌∙◌, ap}
use Rattle.isis_base.specs.Identifiers.{lsp_number}
use Rattle.model_router.specs.Maps.{erase}
use Rattle.lsp_fragments.specs.Kept.{OwnState, by_id, issued_pairs}
use Rattle.lsp_fragments.proofs.ShownLemmas.{erase-shown}
use Rattle.lsp_fragments.proofs.own_lsps.OwnLsps.drop_id.Goals as goal

pub returns-clause-issued : goal.returns-clause-issued
returns-clause-issued c =
    ap issued_pairs (rw c.to_number.ensures at c.take_out.ensures.items) ∙ erase-shown (by_id c.self.inside.list.items) (lsp_number c.args.id)
    ∙ ap (λ (s : OwnState). erase s.issued (lsp_number c.args.id)) c.self.view_is
