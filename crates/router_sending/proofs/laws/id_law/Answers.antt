use Rattle.router_sending.proofs.DraftLemmas.{id-again}
use Rattle.router_sending.proofs.laws.id_law.Goals as goal

pub returns-clause-same : goal.returns-clause-same
returns-clause-same c = id-again c.args.id c.lsp_id_law.ensures
