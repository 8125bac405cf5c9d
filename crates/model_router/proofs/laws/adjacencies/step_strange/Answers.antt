-- What comes from another boot than the one that is kept is dropped.
use Rattle.model_router.proofs.StrangerLemmas.{strange-lsp, strange-snp}
use Rattle.model_router.proofs.laws.adjacencies.step_strange.Goals as goal

pub returns-clause-lsp : goal.returns-clause-lsp
returns-clause-lsp c = strange-lsp

pub returns-clause-snp : goal.returns-clause-snp
returns-clause-snp c = strange-snp
