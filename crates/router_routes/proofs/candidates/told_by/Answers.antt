use Rattle.router_routes.proofs.SystemLemmas.{told-same}
use Rattle.router_routes.proofs.candidates.told_by.Goals as goal

pub returns : goal.returns
returns c =
    told-same c.args.view.now c.args.ones.now c.args.twos.now c.requires.ones c.requires.twos c.in_ok-list.list.items c.add_told.new.list.items c.add_told-2.new.list.items c.in_ok-list.ensures c.in_ok-add_told.ensures c.in_ok-add_told-2.ensures
