-- The lines that a text begins with (own).
use Rattle.std.specs.Prelude.{ℕ, List, ◌++◌, codes, decimal}

-- a line of the text's name, and `kept K skipped K2`
unfoldable pub head_text : List ℕ → (kept skipped : ℕ) → List ℕ
head_text name kept skipped =
    name ++ (codes "\nkept " ++ decimal kept) ++ (codes " skipped " ++ decimal skipped)
    ++ codes "\n"
