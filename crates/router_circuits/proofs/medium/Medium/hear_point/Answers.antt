use Rattle.router_circuits.proofs.medium.Medium.hear_point.Goals as goal

pub returns-clause-greeted : goal.returns-clause-greeted
returns-clause-greeted c config is = rw c.in-Point.is (c.greet.ensures.greeted config is)
