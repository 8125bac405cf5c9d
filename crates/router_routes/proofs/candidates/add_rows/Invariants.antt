use Rattle.std.proofs.Common.{◌≡◌, ◌++◌, drop}
use Rattle.std.specs.List.{flat_map}
use Rattle.router_routes.specs.Ways.{put_all, weighed_at}
use Rattle.router_routes.proofs.candidates.add_rows.Given as goal

-- the candidates so far, and those of what is left
abbrev pub invariant-loop-number : goal.invariant-loop-number
invariant-loop-number l =
    let row = weighed_at l.may (put_all l.table.rows l.after.rows) in
    l.list.items ++ flat_map row (drop l.number-index l.numbers) ≡ l.fn.list.items ++ flat_map row l.numbers
