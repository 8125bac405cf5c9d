-- What a router leaks from one level into the other (RFC 5302 3), by a plain program: a law says that
-- it is what its routes leak.
use Rattle.std.specs.Prelude.{ℕ, ◌==◌, nat_lt, Bool, ◌&&◌, ◌||◌, List, [], ◌∷◌, map, filter, Option, Some, None, if◌then◌else◌}
use Rattle.isis_base.specs.declared.level.Level.{Level}
use Rattle.isis_base.specs.declared.level.Level.TheVariants as level
use Rattle.isis_base.specs.declared.prefix.Prefix.{Prefix}
use Rattle.isis_base.specs.Prefixes.{prefix_number}
use Rattle.isis_tlv.specs.declared.prefix.PrefixItem.{PrefixItem}
use Rattle.model_router.specs.Maps.{find, put}
use Rattle.route_table.specs.declared.candidate.Candidate.{Candidate}
use Rattle.route_table.specs.Ranks.{rank_number}
use Rattle.route_leaking.specs.Leaks.{leaked_metric, up_leaks, down_leaks}
use Rattle.route_table.specs.declared.route.Route.{Route}
use Rattle.router_routes.specs.Outlooks.{Outlook}
use Rattle.router_routes.specs.Candidates.{candidates_of}

-- a rank and cost are better than others: the rank counts first (RFC 5302 3.2)
abbrev pub is_better : ℕ × ℕ → ℕ × ℕ → Bool
is_better way other =
    nat_lt way.0 other.0 || (way.0 == other.0 && nat_lt way.1 other.1)

abbrev pub better : ℕ × ℕ → Option (ℕ × ℕ) → ℕ × ℕ
better way None = way
better way (Some other) = if is_better other way then other else way

abbrev pub way_of : Candidate → ℕ × ℕ
way_of c = (rank_number c.rank, c.cost)

-- each prefix, in order, with the best rank and cost of its candidates (RFC 5302 3.2)
abbrev pub best_of : List Candidate → List (ℕ × (ℕ × ℕ))
best_of [] = []
best_of (c ∷ candidates) =
    put (best_of candidates) (prefix_number c.prefix)
    (better (way_of c) (find (best_of candidates) (prefix_number c.prefix)))

-- the rank of what is leaked into a level: level 1 is told in level 2, and level 2 in level 1 (3.1)
abbrev pub leaked_rank : Level → ℕ
leaked_rank level.One = 2
leaked_rank level.Two = 1

abbrev pub has_way : ℕ → ℕ × (ℕ × ℕ) → Bool
has_way rank best = best.1.0 == rank

-- prefixes of a rank with the metrics that they are leaked at (RFC 5302 3, RFC 5305 4)
abbrev pub leaked_of : ℕ → List (ℕ × (ℕ × ℕ)) → List (ℕ × ℕ)
leaked_of rank best =
    map (λ (b : ℕ × (ℕ × ℕ)). (b.0, leaked_metric b.1.1)) (filter (has_way rank) best)

-- what is leaked into a level (RFC 5302 3)
unfoldable pub leaks_of : Outlook → Level → List (ℕ × ℕ)
leaks_of o level = leaked_of (leaked_rank level) (best_of (candidates_of o))

-- ---- prefixes with metrics, as numbers (own)

abbrev pub item_pair : PrefixItem → Prefix × ℕ
item_pair item = (item.prefix, item.metric)

abbrev pub pair_of : Prefix × ℕ → ℕ × ℕ
pair_of own = (prefix_number own.0, own.1)

-- what routes leak into a level: level 1 is told in level 2, and level 2 in level 1 (RFC 5302 3)
abbrev pub leaked_items : Level → List Route → List PrefixItem
leaked_items level.One routes = down_leaks routes
leaked_items level.Two routes = up_leaks routes

abbrev pub leaked_by : Level → List Route → List (ℕ × ℕ)
leaked_by level routes =
    map (λ (item : PrefixItem). pair_of (item_pair item)) (leaked_items level routes)
