-- What is taken and stored live is of another system.
use Rattle.step_laws.proofs.OriginLemmas.{new-has-origin}
use Rattle.step_laws.proofs.origins.origin_law.Goals as goal

pub returns : goal.returns
returns c = new-has-origin
