-- The summary of a grid's run (own).
use Rattle.std.specs.Prelude.{ℕ, List, ◌++◌, codes, decimal}
use Rattle.lab_grid.specs.declared.summary.Summary.{Summary}

-- a word and a number as a line
unfoldable pub number_line : List ℕ → ℕ → List ℕ
number_line word number = word ++ decimal number ++ codes "\n"

-- a line for each number
unfoldable pub summary_text : Summary → List ℕ
summary_text summary =
    number_line (codes "grid ") summary.size
    ++ number_line (codes "routers ") summary.routers
    ++ number_line (codes "links ") summary.links
    ++ number_line (codes "groups ") summary.groups
    ++ number_line (codes "routes ") summary.tally.routes
    ++ number_line (codes "cost ") summary.tally.cost
    ++ number_line (codes "greatest ") summary.tally.greatest
