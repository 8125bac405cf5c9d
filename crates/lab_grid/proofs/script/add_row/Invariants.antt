use Rattle.std.proofs.Common.{◌≡◌, ◌+◌, ◌-◌, ◌++◌}
use Rattle.std.specs.List.{flat_map, range_with_len}
use Rattle.lab_grid.specs.GridLines.{line_at}
use Rattle.lab_grid.proofs.script.add_row.Given as goal

-- what is written, and what is left
abbrev pub invariant-loop-column : goal.invariant-loop-column
invariant-loop-column l =
    l.text ++ flat_map (line_at l.line l.row) (range_with_len l.column (l.columns + 1 - l.column))
    ≡ l.fn.text ++ flat_map (line_at l.line l.row) (range_with_len 1 l.columns)
