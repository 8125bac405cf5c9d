use Rattle.lab_facts.proofs.SweepLemmas.{whole-each, each-whole}
use Rattle.lab_facts.proofs.laws.whole_law.Goals as goal

pub returns : goal.returns
returns c key takings = (whole-each key takings, each-whole key takings)
