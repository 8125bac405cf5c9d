use Rattle.router_circuits.proofs.medium.Medium.point_after.Goals as goal

pub returns-clause-after : goal.returns-clause-after
returns-clause-after c config is = rw c.in-Point.is (c.after.ensures.after config is)
