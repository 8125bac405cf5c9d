-- What an event is to the model's router, and when it may be handed over (own).
use Rattle.std.specs.Prelude.{◌≡◌, ℕ, ◌-◌, ◌<◌, ◌≤◌, length, Option, Some, None}
use Rattle.model_router.specs.Maps.{find}
use Rattle.model_router.specs.Routers.{Router}
use Rattle.model_router.specs.Events as model
use Rattle.router_desk.specs.declared.config.Change.{Change}
use Rattle.router_desk.specs.declared.config.Change.TheVariants as change
use Rattle.isis_base.specs.Prefixes.{prefix_number}
use Rattle.router_desk.specs.Desks.{desk_of}
use Rattle.router_desk.specs.Opening.{message_of, IsOpenedBy}
use Rattle.router_core.specs.declared.event.NodeEvent.{NodeEvent}
use Rattle.router_core.specs.declared.event.NodeEvent.TheVariants as event

-- a change of the configuration
abbrev pub change_of : Change → model.Event
change_of (change.Metric circuit metric) = model.Metric (circuit - 1) metric
change_of (change.Prefix prefix metric) = model.Prefix (prefix_number prefix) metric
change_of (change.Overload on) = model.Overload on

-- an event of a router
abbrev pub event_of : Router → NodeEvent → model.Event
event_of r event.Second = model.Second
event_of r (event.Take opened) =
    model.Take (opened.circuit - 1) (message_of r.config.system opened.seen)
event_of r (event.Pull circuit) = model.Pull (circuit - 1)
event_of r (event.Change change) = change_of change

-- ---- when an event may be handed over

-- the circuit of a number is there (own)
abbrev pub IsThere : Router → ℕ → Type 0
IsThere r circuit = (1 ≤ circuit) × (circuit ≤ length r.circuits)

-- a new prefix finds fewer than 4,096, and its metric isn't above the greatest of RFC 5305 4 (own)
abbrev pub FitsPrefix : Router → ℕ → Option ℕ → Type 0
FitsPrefix r prefix None = Unit {0}
FitsPrefix r prefix (Some metric) = (metric ≤ 4261412864)
    × (find r.config.prefixes prefix ≡ None → length r.config.prefixes < 4096)

-- own
abbrev pub FitsChange : Router → Change → Type 0
FitsChange r (change.Metric circuit metric) = IsThere r circuit × (metric ≤ 16777215)
FitsChange r (change.Prefix prefix metric) = FitsPrefix r (prefix_number prefix) metric
FitsChange r (change.Overload on) = Unit {0}

-- the circuit exists, a desk equal to the router's opened what is taken, and a change is within the
-- limits (own)
abbrev pub Fits : Router → NodeEvent → Type 0
Fits r event.Second = Unit {0}
Fits r (event.Take opened) =
    IsThere r opened.circuit × IsOpenedBy (desk_of r.config r.circuits) opened
Fits r (event.Pull circuit) = IsThere r circuit
Fits r (event.Change change) = FitsChange r change
