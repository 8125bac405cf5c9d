-- What is leaked beside one's own prefixes, and the LSP IDs of a pseudonode.
use Rattle.model_router.proofs.PrefixLemmas.{leaks-own, leaks-new, pseudonode-node}
use Rattle.model_router.proofs.laws.states.own_lsp_laws.Goals as goal

pub returns-clause-own : goal.returns-clause-own
returns-clause-own c = leaks-own

pub returns-clause-leaked : goal.returns-clause-leaked
returns-clause-leaked c = leaks-new

pub returns-clause-pseudonode : goal.returns-clause-pseudonode
returns-clause-pseudonode c = pseudonode-node
