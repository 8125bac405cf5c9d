use Rattle.adjacency.proofs.by_snpa.place_of.Goals as goal

pub returns : goal.returns
returns c = rw c.snpa_to_number.ensures.value at c.place_of.ensures
