-- What a step leaves of a router, and how it changes adjacencies.
use Rattle.model_router.proofs.BondLemmas.{step-stays, step-bonds, step-newcomer, step-kept}
use Rattle.model_router.proofs.GreetLemmas.{step-greets}
use Rattle.model_router.proofs.laws.adjacencies.step_bonds.Goals as goal

pub returns-clause-stays : goal.returns-clause-stays
returns-clause-stays c = step-stays

pub returns-clause-bonds : goal.returns-clause-bonds
returns-clause-bonds c = step-bonds

pub returns-clause-greets : goal.returns-clause-greets
returns-clause-greets c = step-greets

pub returns-clause-kept : goal.returns-clause-kept
returns-clause-kept c = step-kept

pub returns-clause-newcomer : goal.returns-clause-newcomer
returns-clause-newcomer c = step-newcomer
