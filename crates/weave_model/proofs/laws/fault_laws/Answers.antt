use Rattle.weave_model.proofs.FaultLemmas.{first-once, no-fault}
use Rattle.weave_model.proofs.laws.fault_laws.Goals as goal

pub returns-clause-once : goal.returns-clause-once
returns-clause-once c = first-once

pub returns-clause-none : goal.returns-clause-none
returns-clause-none c = no-fault
