use Rattle.std.proofs.Common.{◌∙◌}
use Rattle.lab_keys.proofs.PairLemmas.{has_pair-from_contains}
use Rattle.lab_keys.proofs.net.has.Goals as goal

pub returns : goal.returns
returns c = c.contains.ensures ∙ has_pair-from_contains c.args.pairs.now.keys c.args.pair.0 c.args.pair.1
