use Rattle.line_source.proofs.MoreLemmas.{more-behind}
use Rattle.line_source.proofs.laws.more_law.Goals as goal

pub returns : goal.returns
returns c = more-behind
