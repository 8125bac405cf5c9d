use Rattle.std.proofs.Common.{sym, subst}
use Rattle.model_router.specs.Sorted.{RisesFrom}
use Rattle.ordered.proofs.PairLemmas.{keyed-rises}
use Rattle.router_routes.specs.Ways.{row_key, row_ways, rows_of}
use Rattle.router_routes.proofs.WayLemmas.{rises-kept}
use Rattle.router_routes.proofs.rows.rows_after.Goals as goal

pub add_each-requires : goal.add_each-requires
add_each-requires c = subst (RisesFrom 0) (sym c.in_ok-rows.ensures) (rises-kept c.args.moved.now (rows_of c.args.table.now) c.args.numbers.now c.requires.numbers)

pub returns-clause-rises : goal.returns-clause-rises
returns-clause-rises c = keyed-rises row_key row_ways c.add_each.new.rows.items 0 c.in_ok-add_each.ensures.rises
