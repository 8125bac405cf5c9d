use Rattle.std.proofs.Common.{◌∙◌}
use Rattle.std.proofs.lemmas.Result.{IfOk-weaker}
use Rattle.lsp_view.specs.Lsps.{entries_in}
use Rattle.router_routes.proofs.NearLemmas.{own-rows}
use Rattle.router_routes.proofs.near.rows_from.Goals as goal

-- src/near.rt
pub returns : goal.returns
returns c =
    IfOk-weaker c.rows_at.result _ _ (λ rows e. e ∙ own-rows (entries_in c.args.lsps) c.args.node c.kept.ensures.rises c.kept.ensures.ids c.lsp_id_law.ensures) c.rows_at.ensures
