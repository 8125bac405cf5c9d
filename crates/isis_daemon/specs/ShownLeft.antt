-- What is still to come of what an input is shown as (own).
use Rattle.std.specs.Prelude.{ℕ, List, length}
use Rattle.line_cuts.specs.Cuts.{parts_behind}
use Rattle.isis_daemon.specs.declared.shown.Shown.{Shown}
use Rattle.isis_daemon.specs.ShowText.{shown_lines}

abbrev pub shown_left : Shown → List ℕ
shown_left shown = shown_lines shown.long shown.number (parts_behind 10 shown.left)

-- a call for each line
abbrev pub count_of_lines_left : Shown → ℕ
count_of_lines_left shown = length (parts_behind 10 shown.left)
