use Rattle.adjacency.proofs.ElectLemmas.{less-change, some_up-ups}
use Rattle.adjacency.proofs.laws.lan_laws.Goals as goal

pub returns-clause-second : goal.returns-clause-second
returns-clause-second c = less-change

pub returns-clause-opened : goal.returns-clause-opened
returns-clause-opened c = some_up-ups
