use Rattle.lab_facts.specs.Tags.{AreGrouped}
use Rattle.lab_facts.proofs.joined.grouped.Given as goal

abbrev pub invariant-loop-router : goal.invariant-loop-router
invariant-loop-router l = AreGrouped l.runs l.labels l.router l.groups l.places.items
