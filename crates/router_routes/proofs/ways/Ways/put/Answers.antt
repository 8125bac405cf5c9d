use Rattle.std.proofs.Common.{◌∙◌, ℕ, List, Vec, ap, sym, subst}
use Rattle.std.specs.declared.alloc.Global.{Global}
use Rattle.model_router.specs.Sorted.{RisesFrom}
use Rattle.ordered.specs.Keyed.{keyed}
use Rattle.route_table.specs.declared.candidate.Candidate.{Candidate}
use Rattle.router_routes.specs.Ways.{RowsOf, WaysOf, put_all, row_key, rows_of}
use Rattle.router_routes.proofs.RowLemmas.{room-before, room-then}
use Rattle.router_routes.proofs.ways.Ways.put.Goals as goal

pub returns : goal.returns
returns c =
    let rows = rows_of c.after.inside.rows.items in
    c.put_rows.ensures.ways
    ∙ ap (λ (xs : List (ℕ × Vec Candidate Global)). put_all (rows_of xs) rows) c.move_to.ensures.same
    ∙ ap (λ (w : WaysOf). put_all w.rows rows) c.self.view_is
    ∙ ap (λ (a : RowsOf). put_all c.args.self.now.rows a.rows) c.after.view_is

pub move_to-requires-clause-fits : goal.move_to-requires-clause-fits
move_to-requires-clause-fits c = room-before c.self.inside.rows.items c.after.inside.rows.items _ c.after.inside.room c.args.self.now c.args.after c.self.view_is c.after.view_is c.requires

pub put_rows-requires-clause-rises : goal.put_rows-requires-clause-rises
put_rows-requires-clause-rises c = subst (λ (xs : List (ℕ × Vec Candidate Global)). RisesFrom 0 (keyed row_key xs)) (sym c.move_to.ensures.same) c.self.invariant

pub put_rows-requires-clause-room : goal.put_rows-requires-clause-room
put_rows-requires-clause-room c =
    room-then c.self.inside.rows.items c.after.inside.rows.items c.move_to.new.rows.items _ _ c.after.inside.room c.args.self.now c.args.after c.move_to.ensures.same c.self.view_is c.after.view_is c.requires c.move_to.ensures.room
