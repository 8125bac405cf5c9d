use Rattle.route_table.proofs.PutLemmas.{held-by}
use Rattle.route_table.proofs.putting.is_held.Goals as goal

pub returns : goal.returns
returns c = held-by c.args.routes.now c.args.wanted c.args.place c.prefix_number.result c.index-routes-place.result c.requires.old c.requires.at c.if-place-routes.false c.prefix_number.ensures
