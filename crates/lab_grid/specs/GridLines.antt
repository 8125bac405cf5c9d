-- The line of a place, by what it is of (own).
use Rattle.std.specs.Prelude.{ℕ, List}
use Rattle.lab_grid.specs.declared.line.GridLine.{GridLine}
use Rattle.lab_grid.specs.declared.line.GridLine.TheVariants.{Router, Across, Down, Prefix}
use Rattle.lab_grid.specs.GridText.{router_line, across_line, down_line, prefix_line}

abbrev pub line_at : GridLine → (row column : ℕ) → List ℕ
line_at Router = router_line
line_at Across = across_line
line_at Down = down_line
line_at Prefix = prefix_line
