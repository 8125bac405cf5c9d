use Rattle.lab_grid.proofs.HeadLemmas.{grid-is-lab}
use Rattle.lab_grid.proofs.laws.grid_laws.Goals as goal

pub returns : goal.returns
returns c = grid-is-lab
