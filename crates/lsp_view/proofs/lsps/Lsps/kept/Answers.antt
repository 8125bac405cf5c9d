use Rattle.lsp_view.proofs.LspsLemmas.{with-ids, with-rises}
use Rattle.lsp_view.proofs.lsps.Lsps.kept.Goals as goal

-- src/lsps.rt
pub returns-in-Some-clause-rises : goal.returns-in-Some-clause-rises
returns-in-Some-clause-rises c = with-rises c.args.self.now _ c.in-Some.is c.len-entries.ensures.rises

-- src/lsps.rt
pub returns-in-Some-clause-ids : goal.returns-in-Some-clause-ids
returns-in-Some-clause-ids c = with-ids c.args.self.now _ c.in-Some.is c.lsp_id_law.ensures c.len-entries.ensures.ids
