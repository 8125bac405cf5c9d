-- What the routes of one level say in the other (RFC 5302 3).
use Rattle.std.specs.Prelude.{ℕ, ◌==◌, min, Bool, true, false, List, map, filter}
use Rattle.isis_tlv.specs.declared.prefix.PrefixItem.{PrefixItem}
use Rattle.route_table.specs.declared.rank.Rank.{Rank}
use Rattle.route_table.specs.declared.rank.Rank.TheVariants.{One, Two}
use Rattle.route_table.specs.declared.route.Route.{Route}
use Rattle.route_table.specs.Ranks.{rank_number}

-- the metric that a cost is leaked at: the greatest of a prefix where it is more (RFC 5305 4)
abbrev pub leaked_metric : ℕ → ℕ
leaked_metric cost = min cost 4261412864

-- what is said of a route's prefix, with the up/down bit or without (RFC 5302 2.1)
abbrev pub leaked : Bool → Route → PrefixItem
leaked down route =
    record { prefix = route.prefix; metric = leaked_metric route.cost; down = down }

-- whether a route is of a rank (own)
abbrev pub has_rank : Rank → Route → Bool
has_rank rank route = rank_number route.rank == rank_number rank

-- the prefixes of the routes of a rank, in order, with the up/down bit or without (RFC 5302 3)
abbrev pub leaks : Rank → Bool → List Route → List PrefixItem
leaks rank down routes = map (leaked down) (filter (has_rank rank) routes)

-- level 1 is told in level 2, and what came down isn't told up again (RFC 5302 3.2)
abbrev pub up_leaks : List Route → List PrefixItem
up_leaks routes = leaks One false routes

-- level 2 is told in level 1, marked as having come down (RFC 5302 3.1)
abbrev pub down_leaks : List Route → List PrefixItem
down_leaks routes = leaks Two true routes
