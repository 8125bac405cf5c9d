use Rattle.std.proofs.Common.{◌≡◌, ◌+◌, ◌-◌, ◌++◌}
use Rattle.std.specs.List.{flat_map, range_with_len}
use Rattle.lab_grid.specs.GridLines.{line_at}
use Rattle.lab_grid.proofs.script.add_rows.Given as goal

-- what is written, and what is left
abbrev pub invariant-loop-row : goal.invariant-loop-row
invariant-loop-row l =
    l.text ++ flat_map (λ row. flat_map (line_at l.line row) (range_with_len 1 l.columns)) (range_with_len l.row (l.rows + 1 - l.row))
    ≡ l.fn.text ++ flat_map (λ row. flat_map (line_at l.line row) (range_with_len 1 l.columns)) (range_with_len 1 l.rows)
