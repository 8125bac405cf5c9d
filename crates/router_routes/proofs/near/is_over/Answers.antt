use Rattle.std.proofs.Common.{◌∙◌}
use Rattle.lsp_view.specs.Lsps.{entries_in}
use Rattle.router_routes.proofs.IdLemmas.{stands}
use Rattle.router_routes.proofs.NearLemmas.{over-at}
use Rattle.router_routes.proofs.near.is_over.Goals as goal

-- src/near.rt
pub returns : goal.returns
returns c =
    c.is_overloaded_at.ensures ∙ over-at (entries_in c.args.lsps) c.args.node c.kept.ensures.rises c.kept.ensures.ids (stands (record { node = c.args.node; number = 0 }) c.lsp_id_law.ensures).first
