use Rattle.std.proofs.Common.{◌∙◌, ap, sym}
use Rattle.std.proofs.lemmas.Result.{IfOk-weaker}
use Rattle.lsp_view.specs.Views.{areas_at}
use Rattle.router_routes.proofs.ToldLemmas.{areas-told}
use Rattle.lsp_view.specs.Lsps.{entries_in}
use Rattle.router_routes.proofs.systems.areas_of.Goals as goal

pub returns : goal.returns
returns c =
    IfOk-weaker c.area_list.result _ _ (λ list e. e ∙ sym (areas-told (entries_in c.lsps_of-lsps.result) c.kept.ensures.rises c.args.system) ∙ ap areas_at c.lsps_of-lsps.ensures.lead) c.area_list.ensures
