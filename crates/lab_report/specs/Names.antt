-- The names of routers and links, by their numbers (own).
use Rattle.std.specs.Prelude.{ℕ, List, [], map, Option, Some, None}
use Rattle.std.specs.Borrow.{Bor}
use Rattle.model_router.specs.Places.{nth}

-- the texts of lent names
abbrev pub texts : List (Bor (List ℕ)) → List (List ℕ)
texts names = map (λ name. name.now) names

abbrev pub or_nothing : Option (List ℕ) → List ℕ
or_nothing None = []
or_nothing (Some name) = name

-- the name of a number; nothing where there is none
unfoldable pub name_at : List (List ℕ) → ℕ → List ℕ
name_at names n = or_nothing (nth names n)
