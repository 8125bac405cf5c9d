-- Links between routers, each by the numbers of its ends, the lesser first.
use Rattle.std.specs.Prelude.{ℕ, ◌==◌, ◌&&◌, ◌||◌, Bool, false, List, [], ◌∷◌}

-- whether some link has these two ends (own)
abbrev pub has_link : List (ℕ × ℕ) → ℕ × ℕ → Bool
has_link [] ends = false
has_link (link ∷ links) ends = (link.0 == ends.0 && link.1 == ends.1) || has_link links ends
