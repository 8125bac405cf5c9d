use Rattle.lab_facts.specs.Parents.{AreOwn}
use Rattle.lab_facts.proofs.parents.each_its_own.Given as goal

abbrev pub invariant-loop-router : goal.invariant-loop-router
invariant-loop-router l = AreOwn l.parents.items l.router
