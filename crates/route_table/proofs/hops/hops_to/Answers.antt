use Rattle.route_table.proofs.hops.hops_to.Goals as goal

pub returns-in-One-clause-hops : goal.returns-in-One-clause-hops
returns-in-One-clause-hops c = rw c.in-One.is c.hops.ensures.hops

pub returns-in-Two-clause-hops : goal.returns-in-Two-clause-hops
returns-in-Two-clause-hops c = rw c.in-Two.is c.hops-in-Two.ensures.hops

pub returns-in-OneDown-clause-hops : goal.returns-in-OneDown-clause-hops
returns-in-OneDown-clause-hops c = rw c.in-OneDown.is c.hops-in-OneDown.ensures.hops

pub returns-in-Default-clause-hops : goal.returns-in-Default-clause-hops
returns-in-Default-clause-hops c = rw c.in-Default.is c.hops-in-Default.ensures.hops
