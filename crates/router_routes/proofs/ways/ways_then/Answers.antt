use Rattle.std.proofs.Common.{◌≡◌, ◌∙◌, ℕ, List, Vec, Some, None, ap, sym, subst}
use Rattle.std.specs.declared.alloc.Global.{Global}
use Rattle.model_router.specs.Maps.{find}
use Rattle.ordered.specs.Keyed.{IsGap, IsPlace}
use Rattle.ordered.proofs.PairLemmas.{find-no_pair, find-pair}
use Rattle.route_table.specs.declared.candidate.Candidate.{Candidate}
use Rattle.router_routes.specs.Ways.{RowsOf, WaysOf, row_key, row_ways, rows_of, ways_in}
use Rattle.router_routes.proofs.WayLemmas.{then-found, then-none}
use Rattle.router_routes.proofs.ways.ways_then.Goals as goal

pub returns-in-Ok : goal.returns-in-Ok
returns-in-Ok c =
    let n = c.args.number in
    let rows = c.after.inside.rows.items in
    let place = subst (λ (xs : List (ℕ × Vec Candidate Global)). IsPlace row_key xs n c.in-Ok.at) c.as_slice.ensures.value (rw c.in-Ok.is at c.place_of.ensures) in
    let found : find (rows_of rows) n ≡ Some (row_ways c.index.result.now) = find-pair row_key row_ways rows n c.in-Ok.at c.index.result.now place ∙ ap (λ (row : ℕ × Vec Candidate Global). Some (row_ways row)) (sym c.index.ensures) in
    c.as_slice-in-Ok.ensures.value ∙ sym (then-found c.args.after.now.rows c.args.table.now.rows n (row_ways c.index.result.now) (sym (ap (λ (a : RowsOf). find a.rows n) c.after.view_is) ∙ found))

pub returns-in-Err : goal.returns-in-Err
returns-in-Err c =
    let n = c.args.number in
    let rows = c.after.inside.rows.items in
    let gap = subst (λ (xs : List (ℕ × Vec Candidate Global)). IsGap row_key xs n c.in-Err.field-0) c.as_slice.ensures.value (rw c.in-Err.is at c.place_of.ensures) in
    let none : find (rows_of rows) n ≡ None = find-no_pair row_key row_ways rows n c.in-Err.field-0 gap in
    c.ways_at.ensures
    ∙ ap (λ (xs : List (ℕ × Vec Candidate Global)). ways_in (rows_of xs) n) c.as_slice-in-Err.ensures.value
    ∙ ap (λ (w : WaysOf). ways_in w.rows n) c.table.view_is
    ∙ sym (then-none c.args.after.now.rows c.args.table.now.rows n (sym (ap (λ (a : RowsOf). find a.rows n) c.after.view_is) ∙ none))
