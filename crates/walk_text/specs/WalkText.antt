-- The text of a walk (own).
use Rattle.std.specs.Prelude.{ℕ, List, ◌++◌, codes, decimal}
use Rattle.std.specs.List.{flat_map}
use Rattle.isis_base.specs.declared.prefix.Prefix.{Prefix}
use Rattle.lab_text.specs.Passed.{name_at, prefix_words, told_cost}
use Rattle.walk_text.specs.declared.walked.Walked.{Walked}

-- `walk NAME PREFIX cost C`, the cost as a line `route` of a report tells it: at most 4,261,412,864
unfoldable pub walk_line : List ℕ → Prefix → ℕ → List ℕ
walk_line name prefix cost =
    codes "walk " ++ name ++ prefix_words prefix ++ (codes " cost " ++ decimal (told_cost cost)) ++ codes "\n"

-- ` NAME`, of the router of this number
unfoldable pub hop_words : List (List ℕ) → ℕ → List ℕ
hop_words names router = codes " " ++ name_at names router

-- `via NAME NAME`, the routers after the first one; where that is the owner there are none
unfoldable pub via_line : List (List ℕ) → List ℕ → List ℕ
via_line names routers = codes "via" ++ flat_map (hop_words names) routers ++ codes "\n"

-- the text of a walk from a router of this name, where routers are named so by their numbers
unfoldable pub walk_text : List (List ℕ) → List ℕ → Prefix → Walked → List ℕ
walk_text names name prefix walked =
    codes "isis-walk 1\n" ++ walk_line name prefix walked.cost
    ++ via_line names walked.routers.items
