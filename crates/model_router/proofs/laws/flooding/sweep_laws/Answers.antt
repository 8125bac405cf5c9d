-- What follows where an SNP is taken and sets no flag.
use Rattle.model_router.proofs.SweepLemmas.{clean-held, clean-listed}
use Rattle.model_router.proofs.laws.flooding.sweep_laws.Goals as goal

pub returns-clause-listed : goal.returns-clause-listed
returns-clause-listed c = clean-held

pub returns-clause-held : goal.returns-clause-held
returns-clause-held c = clean-listed
