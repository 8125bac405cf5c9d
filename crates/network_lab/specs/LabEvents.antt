-- Events of a network of routers: what each does to the network that it stands for, and when it is
-- refused (own).
use Rattle.std.specs.Prelude.{◌≡◌, ℕ, ◌-◌, ◌<◌, ◌≤◌, ◌&&◌, not, nat_le, List, length, Option, Some, None, is_some, IfSome, if◌then◌else◌}
use Rattle.model_router.specs.Places.{nth}
use Rattle.model_router.specs.Maps.{find}
use Rattle.model_router.specs.Routers.{Router}
use Rattle.router_desk.specs.declared.config.Change.{Change}
use Rattle.router_desk.specs.declared.config.Change.TheVariants as change
use Rattle.isis_base.specs.Prefixes.{prefix_number}
use Rattle.router_core.specs.Events.{IsThere}
use Rattle.router_core.specs.Givens.{given}
use Rattle.model_network.specs.Networks.{Network, place_at, numbered}
use Rattle.model_network.specs.Runs as model
use Rattle.model_network.specs.Runs.{Happening, Arrival, NotSent, NotOn, Arrives, arrival, apply}
use Rattle.lab_keys.specs.declared.faults.LabFault.{LabFault}
use Rattle.lab_keys.specs.declared.faults.LabFault.TheVariants as fault
use Rattle.lab_keys.specs.declared.faults.LimitName.TheVariants as limit
use Rattle.network_lab.specs.declared.event.LabEvent.{LabEvent}
use Rattle.network_lab.specs.declared.event.LabEvent.TheVariants as event
use Rattle.network_lab.specs.declared.sent.SentDatagram.{SentDatagram}
use Rattle.network_lab.specs.LabNets.{Seen, sent_in}
use Rattle.network_lab.specs.LabCauses.{IsPast}

-- own
abbrev pub change_of : ℕ → Change → Happening
change_of i (change.Metric circuit metric) = model.SetMetric i (circuit - 1) metric
change_of i (change.Prefix prefix metric) = model.SetPrefix i (prefix_number prefix) metric
change_of i (change.Overload on) = model.SetOverload i on

-- an event of the model's networks (own)
abbrev pub happening_of : LabEvent → Happening
happening_of (event.Tick router) = model.Tick router
happening_of (event.Pull router link) = model.PullOn router link
happening_of (event.Deliver datagram router) = model.Deliver datagram router
happening_of (event.Restart router) = model.Restart router
happening_of (event.Change router change) = change_of router change
happening_of (event.Inject router link octets) = model.Inject router link octets

-- ---- when an event may be handed over

-- a circuit that changes is there, and metrics are at most the greatest of RFC 5305 3 and 4 (own)
abbrev pub IsChange : Router → Change → Type 0
IsChange r (change.Metric circuit metric) = IsThere r circuit × (metric ≤ 16777215)
IsChange r (change.Prefix prefix metric) = IfSome metric (λ metric. metric ≤ 4261412864)
IsChange r (change.Overload on) = Unit {0}

-- the routers and links of an event are there (own)
abbrev pub IsEvent : Seen → LabEvent → Type 0
IsEvent a (event.Tick router) = router < length a.routers
IsEvent a (event.Pull router link) = (router < length a.routers) × (link < length a.links)
IsEvent a (event.Deliver datagram router) = router < length a.routers
IsEvent a (event.Restart router) = router < length a.routers
IsEvent a (event.Change router change) =
    (router < length a.routers) × IfSome (nth a.routers router) (λ r. IsChange r change)
IsEvent a (event.Inject router link octets) =
    (router < length a.routers) × (link < length a.links)

-- ---- when it is refused

-- the router isn't an end of the link (own)
abbrev pub unless_on : Option ℕ → Option LabFault
unless_on None = Some fault.NotOn
unless_on (Some place) = None

-- the datagram isn't there yet; the router isn't an end of its link, or sent it itself (own)
abbrev pub unless_arrives : ℕ → Arrival → Option LabFault
unless_arrives count NotSent = Some (fault.NotSent count)
unless_arrives count NotOn = Some fault.NotOn
unless_arrives count (Arrives d place) = None

-- a boot number has three octets (own)
abbrev pub past_boots : Option Router → Option LabFault
past_boots None = None
past_boots (Some r) = if nat_le 16777215 r.boot then Some (fault.Limit limit.Boots) else None

-- a router has at most 4,096 prefixes (own)
abbrev pub past_prefixes : ℕ → Option Router → Option LabFault
past_prefixes prefix None = None
past_prefixes prefix (Some r) =
    if not (is_some (find r.config.prefixes prefix)) && nat_le 4096 (length r.config.prefixes)
    then Some (fault.Limit limit.Prefixes) else None

-- own
abbrev pub unless_changes : Option Router → Change → Option LabFault
unless_changes r (change.Metric circuit metric) = None
unless_changes r (change.Prefix prefix None) = None
unless_changes r (change.Prefix prefix (Some metric)) = past_prefixes (prefix_number prefix) r
unless_changes r (change.Overload on) = None

-- the fault for which an event is refused, if any (own)
abbrev pub refusal : Network → LabEvent → Option LabFault
refusal net (event.Tick router) = None
refusal net (event.Pull router link) = unless_on (place_at net link router)
refusal net (event.Deliver datagram router) =
    unless_arrives (length net.datagrams) (arrival net (numbered net.datagrams datagram) router)
refusal net (event.Restart router) = past_boots (nth net.routers router)
refusal net (event.Change router change) = unless_changes (nth net.routers router) change
refusal net (event.Inject router link octets) = unless_on (place_at net link router)

-- the network after an event (own)
abbrev pub after : Network → LabEvent → Network
after net event = apply given net (happening_of event)

-- Why an event isn't applied: the run was stopped before; the event is refused; it sent more than
-- 262,144 datagrams in all, of which the first are kept; or memory was wanting (own).
abbrev pub ApplyCause : Network → Option LabFault → LabEvent → List SentDatagram → LabFault
    → Type 0
ApplyCause net (Some stop) event kept fault = fault ≡ stop
ApplyCause net None event kept fault.OutOfMemory = Unit {0}
ApplyCause net None event kept (fault.Limit limit.Datagrams) =
    (refusal net event ≡ None) × IsPast (sent_in (after net event)) kept
ApplyCause net None event kept fault = refusal net event ≡ Some fault
