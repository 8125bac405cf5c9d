use Rattle.daemon_config.proofs.ExampleLemmas.{all-refused}
use Rattle.daemon_config.proofs.laws.refusals_law.Goals as goal

pub returns : goal.returns
returns c = all-refused
