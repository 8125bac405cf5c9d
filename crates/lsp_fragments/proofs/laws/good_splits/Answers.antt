use Rattle.lsp_fragments.proofs.GoodLemmas.{split-good}
use Rattle.lsp_fragments.proofs.OnlyLemmas.{split-only}
use Rattle.lsp_fragments.proofs.laws.good_splits.Goals as goal

pub returns-clause-good : goal.returns-clause-good
returns-clause-good c = split-good

pub returns-clause-only : goal.returns-clause-only
returns-clause-only c = split-only
