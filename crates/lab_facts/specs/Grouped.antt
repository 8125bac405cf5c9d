-- The groups of joined routers as a function of the pairs (own).
use Rattle.std.specs.Prelude.{ℕ, zero, suc, ◌+◌, ◌&&◌, Bool, List, [], ◌∷◌, length, slice_get, if◌then◌else◌}
use Rattle.lab_facts.specs.Parents.{merged}
use Rattle.lab_facts.specs.Tags.{is_on, labelled_groups}

-- labels after a pair: of two routers that take part, the lesser label becomes that of both
abbrev pub with_pair : List Bool → List ℕ → ℕ × ℕ → List ℕ
with_pair runs labels pair =
    if is_on (slice_get runs pair.0) && is_on (slice_get runs pair.1)
    then merged labels pair.0 pair.1 else labels

abbrev pub with_pairs : List Bool → List ℕ → List (ℕ × ℕ) → List ℕ
with_pairs runs labels [] = labels
with_pairs runs labels (pair ∷ pairs) = with_pairs runs (with_pair runs labels pair) pairs

-- so many numbers from one on
abbrev pub numbers_from : ℕ → ℕ → List ℕ
numbers_from n zero = []
numbers_from n (suc count) = n ∷ numbers_from (n + 1) count

-- each router begins with its own number as its label; routers of one label are a group
unfoldable pub groups_of : List Bool → List (ℕ × ℕ) → List (List ℕ)
groups_of runs pairs =
    labelled_groups runs (with_pairs runs (numbers_from 0 (length runs)) pairs) (length runs)
