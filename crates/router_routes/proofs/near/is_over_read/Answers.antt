use Rattle.std.proofs.Common.{◌∙◌}
use Rattle.router_routes.specs.Told.{told_in}
use Rattle.router_routes.specs.Moved.{told_of}
use Rattle.router_routes.proofs.ReadLemmas.{over-same}
use Rattle.lsp_view.specs.Lsps.{entries_in}
use Rattle.router_routes.proofs.near.is_over_read.Goals as goal

pub returns : goal.returns
returns c = c.is_over.ensures ∙ over-same c.args.node (told_in (entries_in c.lsps_at.result)) (told_of c.args.level.now) c.lsps_at.ensures
