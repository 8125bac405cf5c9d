use Rattle.weave_text.proofs.WeavableLemmas.{none-against}
use Rattle.weave_text.proofs.laws.weavable_law.Goals as goal

pub returns : goal.returns
returns c = none-against c.told_laws.ensures.none c.weave_laws.ensures.stuck
