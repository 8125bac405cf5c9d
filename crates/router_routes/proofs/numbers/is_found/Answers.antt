use Rattle.router_routes.proofs.NumberLemmas.{found-one, found-none}
use Rattle.router_routes.proofs.numbers.is_found.Goals as goal

pub returns-in-Ok : goal.returns-in-Ok
returns-in-Ok c = found-one c.args.numbers.now c.args.number c.in-Ok.field-0 c.requires c.in-Ok.ensures.position

pub returns-in-Err : goal.returns-in-Err
returns-in-Err c = found-none c.args.numbers.now c.args.number c.in-Err.field-0 c.requires c.in-Err.ensures.position
