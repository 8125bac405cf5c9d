-- Live LSPs read back.
use Rattle.model_datagram.proofs.LspLemmas.{lsp-reads}
use Rattle.model_datagram.proofs.laws.lsp_law.Goals as goal

pub returns : goal.returns
returns c = λ by config on d boot place level id cell b. lsp-reads by config on d boot place b level id cell
