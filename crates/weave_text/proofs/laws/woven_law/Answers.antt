use Rattle.weave_text.proofs.WovenReadLemmas.{woven-read}
use Rattle.weave_text.proofs.laws.woven_law.Goals as goal

pub returns : goal.returns
returns c = woven-read
