-- What a network of routers is seen as: what it was set up with, and where its run stands (own).
use Rattle.std.specs.Prelude.{◌≡◌, ◌≢◌, ℕ, ◌-◌, Bool, false, List, [], ◌∷◌, ◌++◌, map, length, Option, Some, None}
use Rattle.std.specs.List.{AllByRecursion}
use Rattle.isis_base.specs.declared.level.CircuitKind.{CircuitKind}
use Rattle.isis_base.specs.declared.level.CircuitKind.TheVariants.{PointToPoint, Lan}
use Rattle.model_router.specs.Both.{Both}
use Rattle.model_router.specs.Places.{nth, with_nth}
use Rattle.model_router.specs.Routers.{Router}
use Rattle.model_router.specs.Starts.{start}
use Rattle.router_desk.specs.declared.circuit_config.CircuitConfig.{CircuitConfig}
use Rattle.router_desk.specs.declared.config.Config.{Config}
use Rattle.router_desk.specs.Configs.{config_of, circuits_of}
use Rattle.model_network.specs.declared.end.End.{End}
use Rattle.model_network.specs.Networks.{Datagram, octets_of, Network}
use Rattle.lab_keys.specs.declared.faults.LabFault.{LabFault}
use Rattle.network_lab.specs.declared.notes.Notes.{Notes}
use Rattle.network_lab.specs.declared.sent.Changes.{Changes}
use Rattle.network_lab.specs.declared.sent.SentDatagram.{SentDatagram}

-- What is seen of a network: the routers, the links and LANs by their ends, the datagrams that were
-- sent, in order, how many were injected, and what is noted of the run: the states that routers were in
-- after the events that they took, and the ranges of CSNPs that were taken cleanly on LANs, both the
-- latest first (own).
pub record Seen : Type 0 where
  pub routers : List Router
  pub links : List (List End)
  pub sent : List SentDatagram
  pub injected : ℕ
  pub noted : Notes

-- A network in its run: the configurations that it was set up with, what is seen of it, whether an
-- event was applied, and the fault that stopped it, if any (own).
pub record LabNet : Type 0 where
  pub configs : List Config
  pub seen : Seen
  pub begun : Bool
  pub stopped : Option LabFault

-- ---- networks that it stands for

-- counts of changed keys, level by level (own)
abbrev pub counts_in : Both ℕ → Changes
counts_in changes = record { one = changes.one; two = changes.two }

-- a datagram as it was sent: its sender, the sender's boot and counts of changed keys, its link and its
-- octets (own)
abbrev pub sent_of : Datagram → SentDatagram
sent_of d = record {
  sender = d.sender;
  boot = d.boot;
  changes = counts_in d.changes;
  link = d.link;
  octets = octets_of d;
}

-- all that was sent in a network of the model (own)
abbrev pub sent_in : Network → List SentDatagram
sent_in net = map sent_of net.datagrams

-- what is seen of a network of the model (own)
abbrev pub seen_of : Network → Seen
seen_of net = record {
  routers = net.routers;
  links = net.links;
  sent = sent_in net;
  injected = net.injected;
  noted = record { past = net.past; takings = net.takings };
}

-- it stands for each network that is seen so (own)
pub record StandsFor (net : Network) (a : LabNet) : Type 0 where
  pub seen : seen_of net ≡ a.seen

-- ---- how it is set up

abbrev pub nothing_noted : Notes
nothing_noted = record { past = []; takings = [] }

abbrev pub nothing_seen : Seen
nothing_seen = record { routers = []; links = []; sent = []; injected = 0; noted = nothing_noted }

-- no router and no link (own)
abbrev pub empty_lab : LabNet
empty_lab = record { configs = []; seen = nothing_seen; begun = false; stopped = None }

-- the router of a configuration at its start, in boot 1 (own)
abbrev pub router_of : Config → Router
router_of config = start (config_of config) 1 (circuits_of config)

-- own
abbrev pub with_router : LabNet → Config → LabNet
with_router a config = record a {
  configs = a.configs ++ config ∷ [];
  seen = record a.seen { routers = a.seen.routers ++ router_of config ∷ [] };
}

-- another configuration of a router (own)
abbrev pub with_config : LabNet → ℕ → Config → LabNet
with_config a i config = record a {
  configs = with_nth a.configs i config;
  seen = record a.seen { routers = with_nth a.seen.routers i (router_of config) };
}

-- own
abbrev pub configured : LabNet → ℕ → (Config → Config) → Option Config → LabNet
configured a i change None = a
configured a i change (Some config) = with_config a i (change config)

-- a router's configuration changes before the run (own)
abbrev pub reconfigured : LabNet → ℕ → (Config → Config) → LabNet
reconfigured a i change = configured a i change (nth a.configs i)

-- a circuit of this kind and metric: priority 64, no address, no key (own)
abbrev pub new_circuit : CircuitKind → ℕ → CircuitConfig
new_circuit kind metric = record {
  kind = kind;
  metric = metric;
  priority = 64;
  address = None;
  key = None;
}

-- a circuit more (own)
abbrev pub with_circuit : CircuitConfig → Config → Config
with_circuit c config = record config { circuits = config.circuits ++ c ∷ [] }

abbrev pub circuit_count : Option Config → ℕ
circuit_count None = 0
circuit_count (Some config) = length config.circuits

-- the place of a router's next circuit (own)
abbrev pub next_place : LabNet → ℕ → ℕ
next_place a i = circuit_count (nth a.configs i)

-- a router's next circuit as an end (own)
abbrev pub next_end : List Config → ℕ → End
next_end configs i = record { router = i; place = circuit_count (nth configs i) }

-- each of these routers has this circuit more (own)
abbrev pub with_circuits : CircuitConfig → List ℕ → LabNet → LabNet
with_circuits c [] a = a
with_circuits c (i ∷ routers) a = with_circuits c routers (reconfigured a i (with_circuit c))

-- own
abbrev pub with_row : List End → LabNet → LabNet
with_row ends a = record a { seen = record a.seen { links = a.seen.links ++ ends ∷ [] } }

-- a link or LAN of these routers, which is this circuit of each, its next one (own)
abbrev pub with_ends : LabNet → List ℕ → CircuitConfig → LabNet
with_ends a routers c = with_row (map (next_end a.configs) routers) (with_circuits c routers a)

-- a point-to-point link of two routers (own)
abbrev pub with_link : LabNet → ℕ → ℕ → ℕ → LabNet
with_link a i j metric = with_ends a (i ∷ j ∷ []) (new_circuit PointToPoint metric)

-- a LAN of these routers (own)
abbrev pub with_lan : LabNet → List ℕ → ℕ → LabNet
with_lan a routers metric = with_ends a routers (new_circuit Lan metric)

-- no number stands twice (own)
abbrev pub AreDistinct : List ℕ → Type 0
AreDistinct [] = Unit {0}
AreDistinct (i ∷ list) = AllByRecursion (λ j. i ≢ j) list × AreDistinct list

-- each router's system, as a number (ISO 10589 7.1)
abbrev pub systems_of : List Router → List ℕ
systems_of routers = map (λ (r : Router). r.config.system) routers

-- own
abbrev pub at_circuit : (CircuitConfig → CircuitConfig) → ℕ → List CircuitConfig → Option CircuitConfig
    → List CircuitConfig
at_circuit change place circuits None = circuits
at_circuit change place circuits (Some c) = with_nth circuits place (change c)

-- a change of the circuit of this number, counted from 1 (own)
abbrev pub with_changed : (CircuitConfig → CircuitConfig) → ℕ → Config → Config
with_changed change circuit config = record config {
  circuits = at_circuit change (circuit - 1) config.circuits (nth config.circuits (circuit - 1));
}

-- the key of a circuit's hellos (RFC 5304 3)
abbrev pub with_key : LabNet → ℕ → ℕ → List ℕ → LabNet
with_key a i circuit key =
    reconfigured a i (with_changed (λ c. record c { key = Some key }) circuit)

-- the priority of a circuit (ISO 10589 8.4.5)
abbrev pub with_priority : LabNet → ℕ → ℕ → ℕ → LabNet
with_priority a i circuit priority =
    reconfigured a i (with_changed (λ c. record c { priority = priority }) circuit)
