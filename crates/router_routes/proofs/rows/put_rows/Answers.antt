use Rattle.std.proofs.Common.{◌∙◌, ℕ, List, length, Vec, ap, sym, arith}
use Rattle.std.specs.declared.alloc.Global.{Global}
use Rattle.ordered.specs.Keyed.{paired}
use Rattle.route_table.specs.declared.candidate.Candidate.{Candidate}
use Rattle.router_routes.specs.Ways.{put_all, row_key, row_ways}
use Rattle.router_routes.proofs.RowLemmas.{pairs-push, push-length}
use Rattle.router_routes.proofs.WayLemmas.{put-last}
use Rattle.router_routes.proofs.rows.put_rows.Goals as goal

pub loop-row-preserved : goal.loop-row-preserved
loop-row-preserved c =
    let inv = c.loop-row.invariant in
    let table = paired row_key row_ways c.loop-row.table.items in
    let rest = c.pop.new.self.items in
    let row = c.in-Some.row in
    let items = c.in-Some.ensures.items in
    let same = ap (λ (l : List (ℕ × Vec Candidate Global)). length l) items in
    let count = push-length rest row in
    let few = inv.1 in
    let more = c.put_row.ensures.len in
    let room = c.put_row.ensures.room in (
      c.put_row.ensures.rises,
      omega (arith, same, count, few, more, room),
      ap (λ (t : List (ℕ × List Candidate)). put_all t (paired row_key row_ways rest)) c.put_row.ensures.ways
          ∙ sym (put-last (paired row_key row_ways rest) table (row_key row, row_ways row))
          ∙ ap (put_all table) (sym (pairs-push rest row))
          ∙ ap (λ (l : List (ℕ × Vec Candidate Global)). put_all table (paired row_key row_ways l)) (sym items)
          ∙ inv.2,
    )
