-- The texts of levels and of sets of levels (own).
use Rattle.std.specs.Prelude.{◌≡◌, ℕ, List, Option, Some, None, codes, if◌then◌else◌}
use Rattle.std.specs.Str.{bytes_eq}
use Rattle.isis_base.specs.declared.level.Level.{Level}
use Rattle.isis_base.specs.declared.level.Level.TheVariants as level
use Rattle.isis_base.specs.declared.level.LevelSet.{LevelSet}
use Rattle.isis_base.specs.declared.level.LevelSet.TheVariants as levels

-- a level's text (own)
abbrev pub level_text : Level → List ℕ
level_text level.One = codes "L1"
level_text level.Two = codes "L2"

-- the text of a set of levels (own)
abbrev pub levels_text : LevelSet → List ℕ
levels_text levels.One = codes "L1"
levels_text levels.Two = codes "L2"
levels_text levels.Both = codes "L1L2"

-- the text is that of a set of levels
abbrev pub IsLevelsText : List ℕ → Type 0
IsLevelsText text = (set : LevelSet) × (text ≡ levels_text set)

-- the set of levels that a text is that of
abbrev pub levels_of : List ℕ → Option LevelSet
levels_of text =
    if bytes_eq text (codes "L1") then Some levels.One
    else if bytes_eq text (codes "L2") then Some levels.Two
    else if bytes_eq text (codes "L1L2") then Some levels.Both
    else None
