use Rattle.purge_ageing.proofs.IdLemmas.{keyed-rises}
use Rattle.purge_ageing.proofs.ids.place_of.Goals as goal

pub place_of-requires : goal.place_of-requires
place_of-requires c = keyed-rises c.args.ids.now 0 c.requires

pub returns : goal.returns
returns c = rw c.to_number.ensures at c.place_of.ensures
