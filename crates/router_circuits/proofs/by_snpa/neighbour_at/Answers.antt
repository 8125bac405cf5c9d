use Rattle.router_circuits.proofs.by_snpa.neighbour_at.Goals as goal

pub returns : goal.returns
returns c = rw c.snpa_to_number.ensures.value at c.get.ensures
