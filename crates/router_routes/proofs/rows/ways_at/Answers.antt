use Rattle.std.proofs.Common.{◌∙◌, ap, sym}
use Rattle.ordered.proofs.PairLemmas.{find-pair, find-no_pair}
use Rattle.router_routes.specs.Ways.{row_key, row_ways, ways_or}
use Rattle.router_routes.proofs.rows.ways_at.Goals as goal

pub returns-in-Ok : goal.returns-in-Ok
returns-in-Ok c =
    c.as_slice.ensures.value
    ∙ sym (ap ways_or (find-pair row_key row_ways c.args.table.now c.args.number c.in-Ok.at c.index-table-at.result (rw c.in-Ok.is at c.place_of.ensures)))

pub returns-in-Err : goal.returns-in-Err
returns-in-Err c = sym (ap ways_or (find-no_pair row_key row_ways c.args.table.now c.args.number c.in-Err.field-0 (rw c.in-Err.is at c.place_of.ensures)))
