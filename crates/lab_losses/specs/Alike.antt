-- Whether groups are the same (own).
use Rattle.std.specs.Prelude.{ℕ, Bool, true, false, ◌&&◌, List, [], ◌∷◌, Option, Some, None}
use Rattle.std.specs.Str.{bytes_eq}
use Rattle.isis_base.specs.declared.level.Level.TheVariants as level
use Rattle.model_network.specs.Networks.{Network}
use Rattle.network_lab.specs.LabNets.{seen_of}
use Rattle.network_lab.specs.LinkStates.{groups_at}

abbrev pub are_alike : List (List ℕ) → List (List ℕ) → Bool
are_alike [] [] = true
are_alike [] (y ∷ ys) = false
are_alike (x ∷ xs) [] = false
are_alike (x ∷ xs) (y ∷ ys) = bytes_eq x y && are_alike xs ys

abbrev pub alike_at : Option (List ℕ) → Option (List ℕ) → Bool
alike_at None b = false
alike_at (Some x) None = false
alike_at (Some x) (Some y) = bytes_eq x y

-- a network has these groups of level 1 and level 2 (own)
abbrev pub has_groups : List (List ℕ) → List (List ℕ) → Network → Bool
has_groups one two net =
    are_alike (groups_at (seen_of net) level.One) one && are_alike (groups_at (seen_of net) level.Two) two
