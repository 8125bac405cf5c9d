-- Who a router has designated on a LAN (ISO 10589 8.4.5).
use Rattle.std.specs.Prelude.{ℕ, Option}
use Rattle.std.specs.Option.{option_map}
use Rattle.isis_base.specs.declared.level.Level.{Level}
use Rattle.model_router.specs.Configs.{Config}
use Rattle.model_router.specs.Routers.{Circuit}
use Rattle.model_router.specs.Elections.{designated}

-- the system that is designated on a circuit and level; none where the circuit is no LAN, or no
-- neighbour is up (8.4.5)
abbrev pub designated_system : Config → ℕ → Circuit → Level → Option ℕ
designated_system config place c level =
    option_map (λ best. best.system) (designated config place c level)
