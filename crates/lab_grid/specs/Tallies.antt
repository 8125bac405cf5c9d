-- How many routes there are, and what they cost (own).
use Rattle.std.specs.Prelude.{ℕ, min, max, List, [], ◌∷◌, length}
use Rattle.std.specs.List.{sum_by}
use Rattle.route_table.specs.declared.route.Route.{Route}
use Rattle.lab_grid.specs.declared.tally.Tally.{Tally}

-- the sum of the costs
abbrev pub cost_of : List Route → ℕ
cost_of routes = sum_by (λ (route : Route). route.cost) routes

-- the greatest cost, 0 of no routes
abbrev pub greatest_of : List Route → ℕ
greatest_of [] = 0
greatest_of (route ∷ routes) = max route.cost (greatest_of routes)

-- a number, or the greatest of 64 bits where it is more
abbrev pub capped : ℕ → ℕ
capped number = min number 18446744073709551615

-- how many routes there are, the sum of their costs, and the greatest
unfoldable pub tally_of : List Route → Tally
tally_of routes =
    record {
      routes = capped (length routes);
      cost = capped (cost_of routes);
      greatest = greatest_of routes;
    }
