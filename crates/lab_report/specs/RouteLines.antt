-- The lines of a router's routes in a report (own).
use Rattle.std.specs.Prelude.{ℕ, min, List, [], ◌∷◌, ◌++◌, codes, decimal}
use Rattle.std.specs.List.{flat_map}
use Rattle.isis_base.specs.declared.prefix.Prefix.{Prefix}
use Rattle.isis_base.specs.PrefixTexts.{prefix_text}
use Rattle.isis_base.specs.Texts.{system_text}
use Rattle.model_router.specs.Numbers.{lsp_id}
use Rattle.route_table.specs.declared.rank.Rank.{Rank}
use Rattle.route_table.specs.declared.rank.Rank.TheVariants as rank
use Rattle.route_table.specs.declared.route.Route.{Route}

-- `own`, `L1`, `L2`, `L1d` or `default`
abbrev pub rank_text : Rank → List ℕ
rank_text rank.Own = codes "own"
rank_text rank.One = codes "L1"
rank_text rank.Two = codes "L2"
rank_text rank.OneDown = codes "L1d"
rank_text rank.Default = codes "default"

-- the system of a next hop, by its number
unfoldable pub hop_text : ℕ → List ℕ
hop_text hop = codes " " ++ system_text (lsp_id hop).node.system

-- ` via SYSTEM SYSTEM`; a prefix of one's own has none
abbrev pub via_text : List ℕ → List ℕ
via_text [] = []
via_text (hop ∷ hops) = codes " via" ++ flat_map hop_text (hop ∷ hops)

-- a cost is told as at most 4,261,412,864 (RFC 5305 4)
abbrev pub told_cost : ℕ → ℕ
told_cost cost = min cost 4261412864

abbrev pub prefix_words : Prefix → List ℕ
prefix_words prefix = codes " " ++ prefix_text prefix.address prefix.length

abbrev pub way_text : Rank → ℕ → List ℕ
way_text rank cost = codes " " ++ rank_text rank ++ codes " " ++ decimal cost

-- `route NAME PREFIX RANK COST via SYSTEM SYSTEM`
unfoldable pub route_line : List ℕ → Route → List ℕ
route_line name route =
    codes "route " ++ (name ++ (prefix_words route.prefix ++ (way_text route.rank (told_cost route.cost)
    ++ (via_text route.hops ++ codes "\n"))))
