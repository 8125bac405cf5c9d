-- The events of a line `run`.
use Rattle.model_network.proofs.LineLemmas.{line-run, line-all}
use Rattle.model_network.proofs.laws.line_laws.Goals as goal

pub returns-clause-run : goal.returns-clause-run
returns-clause-run c = line-run

pub returns-clause-events : goal.returns-clause-events
returns-clause-events c = line-all
