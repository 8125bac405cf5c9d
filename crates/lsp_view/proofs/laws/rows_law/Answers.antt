use Rattle.lsp_view.proofs.CountLemmas.{rows-few}
use Rattle.lsp_view.proofs.laws.rows_law.Goals as goal

pub returns : goal.returns
returns c = rows-few c.tlv_laws.ensures.again c.tlv_laws.ensures.anywhere
