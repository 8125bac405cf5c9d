use Rattle.weave_core.proofs.LetterLemmas.{code-law}
use Rattle.weave_core.proofs.laws.code_law.Goals as goal

pub returns : goal.returns
returns c = code-law
