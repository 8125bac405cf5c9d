use Rattle.lsp_fragments.proofs.ContentLemmas.{first-same, prefixes-same, neighbours-same, entries-small}
use Rattle.lsp_fragments.proofs.laws.content_laws.Goals as goal

pub returns-clause-first : goal.returns-clause-first
returns-clause-first c = first-same

pub returns-clause-prefixes : goal.returns-clause-prefixes
returns-clause-prefixes c = prefixes-same

pub returns-clause-neighbours : goal.returns-clause-neighbours
returns-clause-neighbours c = neighbours-same

pub returns-clause-small : goal.returns-clause-small
returns-clause-small c = entries-small
