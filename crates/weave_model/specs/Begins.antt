-- Where replay begins: a router at its start, with the changes that came before all other events
-- (own).
use Rattle.std.specs.Prelude.{ℕ, List, Option, Some, None}
use Rattle.model_router.specs.Places.{nth, with_nth}
use Rattle.model_router.specs.Maps.{set_at}
use Rattle.model_router.specs.Configs.{Config}
use Rattle.model_router.specs.Routers.{Circuit, Router}
use Rattle.model_router.specs.Starts.{start}
use Rattle.model_router.specs.Events.{Event, Second, Take, Pull, Metric, Overload, Prefix}

-- own
abbrev pub metric_in : List Circuit → ℕ → ℕ → Option Circuit → List Circuit
metric_in circuits place metric None = circuits
metric_in circuits place metric (Some c) = with_nth circuits place (record c { metric = metric })

-- a router at its start with its configuration changed; by other events than changes, as it was
-- (own)
abbrev pub started_with : Config → ℕ → List Circuit → Event → Router
started_with config boot circuits Second = start config boot circuits
started_with config boot circuits (Take place message) = start config boot circuits
started_with config boot circuits (Pull place) = start config boot circuits
started_with config boot circuits (Metric place metric) =
    start config boot (metric_in circuits place metric (nth circuits place))
started_with config boot circuits (Overload on) =
    start (record config { overload = on }) boot circuits
started_with config boot circuits (Prefix prefix metric) =
    start (record config { prefixes = set_at config.prefixes prefix metric }) boot circuits

-- an event is a change of the configuration (own)
abbrev pub IsChange : Event → Type 0
IsChange Second = ⊥
IsChange (Take place message) = ⊥
IsChange (Pull place) = ⊥
IsChange (Metric place metric) = Unit {0}
IsChange (Overload on) = Unit {0}
IsChange (Prefix prefix metric) = Unit {0}
