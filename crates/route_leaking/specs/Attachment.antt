-- Whether a router is attached to another area (ISO 10589 7.2.9.2).
use Rattle.std.specs.Prelude.{ℕ, ◌==◌, Bool, ◌&&◌, not, List, length}
use Rattle.std.specs.List.{list_any}
use Rattle.std.specs.Str.{bytes_eq}

-- whether an area address is one of a list (ISO 10589 7.1.1)
abbrev pub has_area : List (List ℕ) → List ℕ → Bool
has_area areas area = list_any (λ own. bytes_eq own area) areas

-- whether some area addresses are there, and none of them is one of a router's own (ISO 10589 7.2.9.2)
abbrev pub is_elsewhere : List (List ℕ) → List (List ℕ) → Bool
is_elsewhere areas others =
    not (length others == 0) && not (list_any (has_area areas) others)

-- whether some system that level 2 reaches is in another area (ISO 10589 7.2.9.2)
abbrev pub is_attached : List (List ℕ) → List (List (List ℕ)) → Bool
is_attached areas reached = list_any (is_elsewhere areas) reached
