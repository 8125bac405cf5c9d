use Rattle.router_levels.proofs.WantedLemmas.{wanted-rises}
use Rattle.router_levels.proofs.laws.wanted_rises.Goals as goal

pub returns : goal.returns
returns c = wanted-rises
