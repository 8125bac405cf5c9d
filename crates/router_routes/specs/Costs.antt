-- Least costs by a plain program, one node after another (ISO 10589 C.2): a law says that they are the
-- least, so they are those of the graph's distances.
use Rattle.std.specs.Prelude.{ℕ, zero, suc, ◌+◌, nat_lt, List, [], ◌∷◌, length, Option, Some, None, is_some, if◌then◌else◌}
use Rattle.std.specs.Option.{option_map}
use Rattle.spf_tree.specs.declared.row.Row.{Row}
use Rattle.spf_tree.specs.Walks.{start, end}
use Rattle.spf_tree.specs.Distances.{cost_at}

-- what a row offers a node that isn't settled yet: the cost over it, and the node (own)
abbrev pub offer_of : List (ℕ × ℕ) → Row → Option (ℕ × ℕ)
offer_of settled row =
    if is_some (cost_at settled (end row)) then None
    else option_map (λ cost. (cost + row.metric, end row)) (cost_at settled (start row))

-- the offer of lesser cost (own)
abbrev pub lesser : Option (ℕ × ℕ) → Option (ℕ × ℕ) → Option (ℕ × ℕ)
lesser None other = other
lesser (Some offer) None = Some offer
lesser (Some offer) (Some other) = if nat_lt other.0 offer.0 then Some other else Some offer

abbrev pub least_offer : List (ℕ × ℕ) → List Row → Option (ℕ × ℕ)
least_offer settled [] = None
least_offer settled (row ∷ rows) = lesser (offer_of settled row) (least_offer settled rows)

-- a node is settled at the cost that it is offered (own)
abbrev pub settled_by : Option (ℕ × ℕ) → List (ℕ × ℕ) → List (ℕ × ℕ)
settled_by None settled = settled
settled_by (Some offer) settled = (offer.1, offer.0) ∷ settled

-- nodes beside their costs, after so many more were settled, each by the least offer (C.2.4)
abbrev pub settle : ℕ → List Row → List (ℕ × ℕ) → List (ℕ × ℕ)
settle zero rows settled = settled
settle (suc more) rows settled =
    settle more rows (settled_by (least_offer settled rows) settled)

-- the least cost of a node over these rows from a root (ISO 10589 C.2)
unfoldable pub cost_of : List Row → ℕ → ℕ → Option ℕ
cost_of rows root node = cost_at (settle (length rows) rows ((root, 0) ∷ [])) node
