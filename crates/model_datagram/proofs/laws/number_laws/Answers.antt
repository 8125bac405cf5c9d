-- Identifiers of numbers have those numbers.
use Rattle.model_datagram.proofs.NumberLemmas.{u48-again, node-reads_back, lsp-reads_back}
use Rattle.model_datagram.proofs.laws.number_laws.Goals as goal

pub returns-clause-system : goal.returns-clause-system
returns-clause-system c = u48-again

pub returns-clause-snpa : goal.returns-clause-snpa
returns-clause-snpa c = u48-again

pub returns-clause-node : goal.returns-clause-node
returns-clause-node c = node-reads_back

pub returns-clause-lsp : goal.returns-clause-lsp
returns-clause-lsp c = lsp-reads_back
