-- An LSP that is heard keeps the flooding of every LSP ID on every circuit.
use Rattle.model_router.proofs.FloodLemmas.{lsp-floods}
use Rattle.model_router.proofs.laws.flooding.lsp_floods.Goals as goal

pub returns : goal.returns
returns c = lsp-floods
