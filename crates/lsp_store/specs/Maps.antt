-- Pairs by LSP ID, in order (own).
use Rattle.std.specs.Prelude.{ℕ, ◌+◌, ◌≤◌, nat_lt, nat_le, Bool, ◌&&◌, ◌==◌, List, [], ◌∷◌, Option, Some, None, if◌then◌else◌}
use Rattle.std.specs.Borrow.{Bor}
use Rattle.isis_base.specs.declared.identifiers.LspId.{LspId}
use Rattle.isis_base.specs.Identifiers.{lsp_number}

-- the number of a pair's LSP ID
abbrev pub pair_number : {T : Type 0} → LspId × T → ℕ
pair_number pair = lsp_number pair.0

-- the value of the first pair that has the number
abbrev pub find : {T : Type 0} → List (LspId × T) → ℕ → Option T
find [] n = None
find (pair ∷ pairs) n = if pair_number pair == n then Some pair.1 else find pairs n

-- sorted pairs with the LSP ID's value set
abbrev pub put : {T : Type 0} → List (LspId × T) → LspId → T → List (LspId × T)
put [] id value = (id, value) ∷ []
put (pair ∷ pairs) id value =
    if pair_number pair == lsp_number id
    then (id, value) ∷ pairs
    else (if nat_lt (lsp_number id) (pair_number pair)
    then (id, value) ∷ pair ∷ pairs
    else pair ∷ put pairs id value)

-- pairs without the first one of the number
abbrev pub erase : {T : Type 0} → List (LspId × T) → ℕ → List (LspId × T)
erase [] n = []
erase (pair ∷ pairs) n = if pair_number pair == n then pairs else pair ∷ erase pairs n

-- pairs with the value of the first one of the number changed
abbrev pub change_at : {T : Type 0} → (T → T) → List (LspId × T) → ℕ → List (LspId × T)
change_at f [] n = []
change_at f (pair ∷ pairs) n =
    if pair_number pair == n then (pair.0, f pair.1) ∷ pairs else pair ∷ change_at f pairs n

-- pairs with all values changed
abbrev pub change_all : {T : Type 0} → (T → T) → List (LspId × T) → List (LspId × T)
change_all f [] = []
change_all f (pair ∷ pairs) = (pair.0, f pair.1) ∷ change_all f pairs

-- the LSP ID of the first pair whose value passes a test
abbrev pub first_where : {T : Type 0} → (T → Bool) → List (LspId × T) → Option LspId
first_where test [] = None
first_where test (pair ∷ pairs) = if test pair.1 then Some pair.0 else first_where test pairs

-- the first answer, or else the second
abbrev pub first_some : Option LspId → Option LspId → Option LspId
first_some None second = second
first_some (Some id) second = Some id

-- the numbers rise, from `least` on
abbrev pub RisesFrom : {T : Type 0} → ℕ → List (LspId × T) → Type 0
RisesFrom least [] = Unit {0}
RisesFrom least (pair ∷ pairs) = (least ≤ pair_number pair) × RisesFrom (pair_number pair + 1) pairs

-- the pairs from a number on
abbrev pub from : {T : Type 0} → ℕ → List (LspId × T) → List (LspId × T)
from start [] = []
from start (pair ∷ pairs) =
    if nat_lt (pair_number pair) start then from start pairs else pair ∷ pairs

-- the pairs up to a number
abbrev pub upto : {T : Type 0} → ℕ → List (LspId × T) → List (LspId × T)
upto end [] = []
upto end (pair ∷ pairs) = if nat_lt end (pair_number pair) then [] else pair ∷ upto end pairs

-- the pairs whose numbers lie between two, both included
abbrev pub between : {T : Type 0} → ℕ → ℕ → List (LspId × T) → List (LspId × T)
between start end [] = []
between start end (pair ∷ pairs) =
    if nat_le start (pair_number pair) && nat_le (pair_number pair) end
    then pair ∷ between start end pairs
    else between start end pairs

-- what an item of a walk shows
abbrev pub pair_of : {T : Type 0} → LspId × Bor T → LspId × T
pair_of item = (item.0, item.1.now)
