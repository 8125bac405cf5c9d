use Rattle.std.proofs.Common.{◌+◌}
use Rattle.lab_grid.specs.GridLines.{line_at}
use Rattle.lab_grid.proofs.GridLemmas.{turn}
use Rattle.lab_grid.proofs.script.add_row.Goals as goal

pub loop-column-preserved : goal.loop-column-preserved
loop-column-preserved c =
    turn (line_at c.args.line c.args.row) c.loop-column.text c.add_line.new.text _ c.loop-column.column (c.args.columns + 1) c.loop-column-test.true c.loop-column.invariant c.in-Ok.ensures
