use Rattle.std.proofs.Common.{◌∙◌}
use Rattle.std.proofs.lemmas.Result.{IfOk-weaker}
use Rattle.router_routes.specs.Told.{told_in}
use Rattle.router_routes.specs.Moved.{told_of}
use Rattle.router_routes.proofs.MovedLemmas.{told-ids}
use Rattle.router_routes.proofs.ReadLemmas.{rows-same}
use Rattle.lsp_view.specs.Lsps.{entries_in}
use Rattle.router_routes.proofs.near.rows_read.Goals as goal

pub returns : goal.returns
returns c =
    let entries = (entries_in c.lsps_at-lsps.result) in
    IfOk-weaker c.rows_from.result _ _ (λ rows e. e ∙ rows-same c.args.node (told_in entries) (told_of c.args.level.now) c.lsps_at-lsps.ensures (told-ids entries c.kept.ensures.ids) c.requires.told.ids) c.rows_from.ensures
