use Rattle.isis_base.specs.Prefixes.{prefix_number}
use Rattle.router_core.proofs.PrefixLemmas.{rises, found}
use Rattle.router_core.proofs.prefix_list.place_of.Goals as goal

pub place_of-requires : goal.place_of-requires
place_of-requires c = rises c.args.list.now c.requires

pub returns-clause-at : goal.returns-clause-at
returns-clause-at c = rw c.to_number.ensures at c.place_of.ensures

pub returns-clause-found : goal.returns-clause-found
returns-clause-found c = found c.args.list.now (prefix_number c.args.prefix) c.place_of.result (returns-clause-at c)
