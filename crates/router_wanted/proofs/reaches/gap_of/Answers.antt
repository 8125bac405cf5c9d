use Rattle.isis_base.specs.Prefixes.{prefix_number}
use Rattle.router_wanted.proofs.ReachLemmas.{rises, found, spot}
use Rattle.router_wanted.proofs.reaches.gap_of.Goals as goal

pub place_of-requires : goal.place_of-requires
place_of-requires c = rises c.args.list.now c.requires

pub returns-in-Ok : goal.returns-in-Ok
returns-in-Ok c = found c.args.list.now (prefix_number c.args.prefix) _ (rw c.to_number.ensures at c.in-Ok.ensures)

pub returns-in-Err : goal.returns-in-Err
returns-in-Err c = spot c.args.list.now (prefix_number c.args.prefix) _ (rw c.to_number.ensures at c.in-Err.ensures)
