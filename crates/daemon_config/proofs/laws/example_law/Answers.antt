use Rattle.daemon_config.proofs.ExampleLemmas.{example}
use Rattle.daemon_config.proofs.laws.example_law.Goals as goal

pub returns : goal.returns
returns c = example
