-- What stands behind a mark of a text (own).
use Rattle.std.specs.Prelude.{ℕ, ◌==◌, List, [], Option, Some, None}
use Rattle.std.specs.List.{slice_split}
use Rattle.std.specs.Borrow.{Bor}

-- the parts of what stands behind a mark; none where no mark was
abbrev pub parts_behind : ℕ → Option (Bor (List ℕ)) → List (List ℕ)
parts_behind mark None = []
parts_behind mark (Some behind) = slice_split (λ byte. byte == mark) behind.now
