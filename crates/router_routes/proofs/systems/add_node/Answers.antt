use Rattle.std.proofs.Common.{[]}
use Rattle.router_routes.specs.Told.{told}
use Rattle.router_routes.proofs.systems.add_node.Goals as goal

pub returns : goal.returns
returns c = c.add_reached.ensures (told 0 [])
