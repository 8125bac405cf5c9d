-- What a router's level 2 LSPs say of prefixes that aren't its own (RFC 5302 3.2).
use Rattle.std.specs.Prelude.{◌≡◌, ℕ, ◌⊎◌, IsSome, List}
use Rattle.std.specs.List.{Contains}
use Rattle.model_router.specs.Maps.{find}
use Rattle.model_router.specs.Configs.{Config}
use Rattle.route_table.specs.declared.rank.Rank.TheVariants as rank
use Rattle.route_table.specs.declared.route.Route.{Route}
use Rattle.isis_base.specs.Prefixes.{prefix_number}

-- a prefix has a route of rank One: the best way to it is within level 1, and came over no up/down
-- bit (RFC 5302 3.2)
pub record HasLevelOneRoute (routes : List Route) (prefix : ℕ) : Type 0 where
  pub route : Route
  pub held : Contains routes route
  pub rank : route.rank ≡ rank.One
  pub to : prefix_number route.prefix ≡ prefix

-- a prefix is one's own, or has a route of rank One (RFC 5302 3.2)
abbrev pub MayGoUp : Config → List Route → ℕ → Type 0
MayGoUp config routes prefix =
    IsSome (find config.prefixes prefix) ⊎ HasLevelOneRoute routes prefix
