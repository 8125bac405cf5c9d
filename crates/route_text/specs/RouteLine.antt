-- The line of an IPv4 route (own).

use Rattle.std.specs.Prelude.{ℕ, min, List, ◌++◌, codes, decimal}
use Rattle.isis_base.specs.declared.prefix.Prefix.{Prefix}
use Rattle.isis_base.specs.PrefixTexts.{prefix_text}
use Rattle.route_table.specs.declared.rank.Rank.{Rank}
use Rattle.route_table.specs.declared.rank.Rank.TheVariants as rank
use Rattle.route_table.specs.declared.route.Route.{Route}
use Rattle.route_text.specs.ViaText.{via_text}

-- `own`, `L1`, `L2`, `L1d` or `default`
abbrev pub rank_text : Rank → List ℕ
rank_text rank.Own = codes "own"
rank_text rank.One = codes "L1"
rank_text rank.Two = codes "L2"
rank_text rank.OneDown = codes "L1d"
rank_text rank.Default = codes "default"

-- a cost is printed as at most 4,261,412,864, the greatest metric of a prefix that is considered (RFC 5305 4)
abbrev pub printed_cost : ℕ → ℕ
printed_cost cost = min cost 4261412864

-- ` PREFIX`, and ` RANK COST`
abbrev pub prefix_words : Prefix → List ℕ
prefix_words prefix = codes " " ++ prefix_text prefix.address prefix.length

abbrev pub way_text : Rank → ℕ → List ℕ
way_text rank cost = codes " " ++ rank_text rank ++ (codes " " ++ decimal cost)

-- `route PREFIX RANK COST via SYSTEM SYSTEM`
unfoldable pub route_line : Route → List ℕ
route_line route =
    codes "route" ++ (prefix_words route.prefix ++ (way_text route.rank (printed_cost route.cost)
    ++ (via_text route.hops ++ codes "\n")))
