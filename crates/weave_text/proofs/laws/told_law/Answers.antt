use Rattle.weave_text.proofs.AlikeLemmas.{told-read}
use Rattle.weave_text.proofs.laws.told_law.Goals as goal

pub returns : goal.returns
returns c = told-read
