use Rattle.lab_facts.proofs.said.tlvs_of.Goals as goal

pub returns : goal.returns
returns c = rw c.as_slice.ensures at c.behind_header.ensures
