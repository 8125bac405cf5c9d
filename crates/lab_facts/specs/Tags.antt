-- Routers by their labels (own).
use Rattle.std.specs.Prelude.{◌≡◌, ℕ, zero, suc, ◌<◌, ◌≤◌, ◌++◌, ◌==◌, ◌&&◌, Bool, true, false, List, [], ◌∷◌, length, map, set, slice_index_or, slice_get, slice_index, Option, Some, None, if◌then◌else◌}

-- own
abbrev pub is_on : Option Bool → Bool
is_on None = false
is_on (Some on) = on

-- whether a router takes part and has a label
abbrev pub has_label : List Bool → List ℕ → ℕ → ℕ → Bool
has_label runs labels label r = is_on (slice_get runs r) && slice_index labels r == label

-- those of a label among the first so many routers
abbrev pub labelled : List Bool → List ℕ → ℕ → ℕ → List ℕ
labelled runs labels label zero = []
labelled runs labels label (suc r) =
    labelled runs labels label r ++ (if has_label runs labels label r then r ∷ [] else [])

-- those that are their own label
abbrev pub firsts : List Bool → List ℕ → ℕ → List ℕ
firsts runs labels zero = []
firsts runs labels (suc r) =
    firsts runs labels r ++ (if has_label runs labels r r then r ∷ [] else [])

-- the groups by labels, of the first so many routers
abbrev pub labelled_groups : List Bool → List ℕ → ℕ → List (List ℕ)
labelled_groups runs labels count =
    map (λ (label : ℕ). labelled runs labels label count) (firsts runs labels count)

-- groups with a router more at the end of one
abbrev pub with_router : List (List ℕ) → ℕ → ℕ → List (List ℕ)
with_router groups place r = set groups place (slice_index_or groups place [] ++ r ∷ [])

-- labels aren't greater than their routers, and a label of a router that takes part takes part and
-- is its own label
pub record AreTags (runs : List Bool) (labels : List ℕ) : Type 0 where
  pub size : length labels ≡ length runs
  pub below : (r : ℕ) → r < length runs → slice_index labels r ≤ r
  pub own : (r : ℕ) → is_on (slice_get runs r) ≡ true
      → has_label runs labels (slice_index labels r) (slice_index labels r) ≡ true

-- groups by labels of the first so many routers, and where the group of each label is
pub record AreGrouped (runs : List Bool) (labels : List ℕ) (r : ℕ) (groups : List (List ℕ))
    (places : List ℕ) : Type 0 where
  pub size : length places ≡ length runs
  pub groups_are : groups ≡ labelled_groups runs labels r
  pub places_are : (first : ℕ) → first < r → has_label runs labels first first ≡ true
      → slice_get (firsts runs labels r) (slice_index places first) ≡ Some first
