use Rattle.lab_grid.proofs.ReadLemmas.{reads}
use Rattle.lab_grid.proofs.RefusalLemmas.{unrefused}
use Rattle.lab_grid.proofs.laws.grid_read_laws.Goals as goal

pub returns-clause-read : goal.returns-clause-read
returns-clause-read c = λ size some few. (reads size some few).read

pub returns-clause-unrefused : goal.returns-clause-unrefused
returns-clause-unrefused c = unrefused
