use Rattle.adjacency.proofs.PairLemmas.{keyed-rises}
use Rattle.adjacency.proofs.boots.place_in.Goals as goal

pub place_of-requires : goal.place_of-requires
place_of-requires c = keyed-rises c.args.list.now 0 c.requires

pub returns : goal.returns
returns c = rw c.system_to_number.ensures.value at c.place_of.ensures
