use Rattle.std.proofs.Common.{◌∙◌, ap, sym, subst, zero-le, List, Some}
use Rattle.model_router.specs.Maps.{set_at}
use Rattle.model_router.specs.Sorted.{RisesFrom}
use Rattle.ordered.specs.Keyed.{keyed, paired}
use Rattle.ordered.proofs.MapLemmas.{erase-rises, put-rises}
use Rattle.route_table.specs.declared.candidate.Candidate.{Candidate}
use Rattle.router_routes.specs.Ways.{row_key, row_ways, some_ways}
use Rattle.router_routes.proofs.RowLemmas.{erased, placed, placed-length, put-room}
use Rattle.router_routes.proofs.rows.put_row.Goals as goal

pub returns-then-has_none-clause-rises : goal.returns-then-has_none-clause-rises
returns-then-has_none-clause-rises c = subst (RisesFrom 0) (sym c.take_at.ensures.items) (erase-rises (keyed row_key c.args.table.now.items) 0 c.args.row.0 c.requires.rises)

pub returns-then-has_none-clause-ways : goal.returns-then-has_none-clause-ways
returns-then-has_none-clause-ways c =
    erased c.take_at.new.list.items c.args.table.now.items (row_key c.args.row) c.take_at.ensures.items
    ∙ ap (set_at (paired row_key row_ways c.args.table.now.items) (row_key c.args.row)) ((rw c.if-has_none.true at c.has_none.ensures) ∙ ap some_ways c.as_slice-2.ensures.value)

pub put_at-requires-clause-room : goal.put_at-requires-clause-room
put_at-requires-clause-room c = put-room c.args.table.now.items (row_key c.args.row) c.args.row _ c.requires.rises c.requires.room

pub returns-clause-rises : goal.returns-clause-rises
returns-clause-rises c = subst (RisesFrom 0) (sym c.put_at.ensures.items) (put-rises (keyed row_key c.args.table.now.items) 0 (row_key c.args.row) c.args.row zero-le c.requires.rises)

pub returns-clause-ways : goal.returns-clause-ways
returns-clause-ways c =
    placed c.put_at.new.list.items c.args.table.now.items (row_key c.args.row) c.args.row c.put_at.ensures.items
    ∙ ap (set_at (paired row_key row_ways c.args.table.now.items) (row_key c.args.row))
    (sym (ap (λ (l : List Candidate). Some l) c.as_slice-2.ensures.value) ∙ (rw c.if-has_none.false at c.has_none.ensures) ∙ ap some_ways c.as_slice-2.ensures.value)

pub returns-clause-len : goal.returns-clause-len
returns-clause-len c = placed-length c.put_at.new.list.items c.args.table.now.items (row_key c.args.row) c.args.row c.requires.rises c.put_at.ensures.items
