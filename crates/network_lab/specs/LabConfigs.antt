-- The configurations of routers with the changes that were made in a run (own).
use Rattle.std.specs.Prelude.{ℕ, ◌==◌, ◌&&◌, List, [], ◌∷◌, ◌++◌, Option, Some, None, if◌then◌else◌}
use Rattle.isis_base.specs.declared.prefix.Prefix.{Prefix}
use Rattle.model_router.specs.Places.{nth, with_nth}
use Rattle.router_desk.specs.declared.config.Config.{Config}
use Rattle.router_desk.specs.declared.config.Change.{Change}
use Rattle.router_desk.specs.declared.config.Change.TheVariants as change
use Rattle.network_lab.specs.declared.event.LabEvent.{LabEvent}
use Rattle.network_lab.specs.declared.event.LabEvent.TheVariants as event
use Rattle.network_lab.specs.LabNets.{with_changed}

-- own prefixes without one (own)
abbrev pub prefixes_without : Prefix → List (Prefix × ℕ) → List (Prefix × ℕ)
prefixes_without prefix [] = []
prefixes_without prefix (own ∷ prefixes) =
    if own.0.address == prefix.address && own.0.length == prefix.length
    then prefixes_without prefix prefixes else own ∷ prefixes_without prefix prefixes

-- own
abbrev pub with_metric_of : Prefix → Option ℕ → List (Prefix × ℕ)
with_metric_of prefix None = []
with_metric_of prefix (Some metric) = (prefix, metric) ∷ []

-- a configuration after a change: the circuit has the metric; the prefix is there no more, or stands
-- last with its metric; overload is set or not (RFC 5305 3 and 4, ISO 10589 7.3.19; the form: own)
abbrev pub config_after : Change → Config → Config
config_after (change.Metric circuit metric) config =
    with_changed (λ c. record c { metric = metric }) circuit config
config_after (change.Prefix prefix metric) config = record config {
  prefixes = prefixes_without prefix config.prefixes ++ with_metric_of prefix metric;
}
config_after (change.Overload on) config = record config { overload = on }

-- own
abbrev pub changed_at : Change → ℕ → List Config → Option Config → List Config
changed_at change i configs None = configs
changed_at change i configs (Some config) = with_nth configs i (config_after change config)

-- the configurations after an event: one that changes a configuration changes that of its router
-- (own)
abbrev pub configs_after : LabEvent → List Config → List Config
configs_after (event.Tick router) configs = configs
configs_after (event.Pull router link) configs = configs
configs_after (event.Deliver datagram router) configs = configs
configs_after (event.Restart router) configs = configs
configs_after (event.Change router change) configs =
    changed_at change router configs (nth configs router)
configs_after (event.Inject router link octets) configs = configs
