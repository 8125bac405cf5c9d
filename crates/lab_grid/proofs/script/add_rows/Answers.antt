use Rattle.std.proofs.Common.{◌+◌}
use Rattle.std.specs.List.{flat_map, range_with_len}
use Rattle.lab_grid.specs.GridLines.{line_at}
use Rattle.lab_grid.proofs.GridLemmas.{turn}
use Rattle.lab_grid.proofs.script.add_rows.Goals as goal

pub loop-row-preserved : goal.loop-row-preserved
loop-row-preserved c =
    turn (λ row. flat_map (line_at c.args.line row) (range_with_len 1 c.args.columns)) c.loop-row.text c.add_row.new.text _ c.loop-row.row (c.args.rows + 1) c.loop-row-test.true c.loop-row.invariant c.in-Ok.ensures
