-- What a step does to SSN.
use Rattle.model_router.proofs.SsnSteps.{ssn-rises, ssn-stays}
use Rattle.model_router.proofs.laws.flooding.step_ssn.Goals as goal

pub returns-clause-rises : goal.returns-clause-rises
returns-clause-rises c = ssn-rises

pub returns-clause-stays : goal.returns-clause-stays
returns-clause-stays c = ssn-stays
