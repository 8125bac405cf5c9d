-- Runs of a network: what each event does to it (own).
use Rattle.std.specs.Prelude.{ℕ, ◌==◌, Bool, true, false, List, [], ◌∷◌, ◌++◌, map, Option, Some, None, if◌then◌else◌}
use Rattle.isis_base.specs.declared.level.Level.TheVariants as level
use Rattle.model_router.specs.Places.{nth, with_nth}
use Rattle.model_router.specs.Both.{Both}
use Rattle.model_router.specs.Books.{risen}
use Rattle.model_router.specs.Givens.{Given}
use Rattle.model_router.specs.Routers.{Circuit, Router, book_of}
use Rattle.model_router.specs.Datagrams.{Sent}
use Rattle.model_router.specs.Events.{Message, Refused, Event, Second, Take, Pull, Metric, Overload, Prefix, Reply, Done, Dropped, Send}
use Rattle.model_router.specs.Steps.{step}
use Rattle.model_router.specs.declared.drop_name.DropName.TheVariants as drop
use Rattle.model_router.specs.AdjacencyLaws.{place_of}
use Rattle.model_datagram.specs.Reading.{read}
use Rattle.model_network.specs.Networks.{Datagram, octets_of, Taking, Network, place_at, numbered, restarted}
use Rattle.model_network.specs.Takings.{ranges_of}

-- A second of a router; its circuit of a link is pulled; a datagram, by its number, is delivered to
-- a router; a router restarts; its configuration changes; octets are injected (own).
pub data Happening : Type 0 where
  Tick : (router : ℕ) → Happening
  PullOn : (router link : ℕ) → Happening
  Deliver : (number router : ℕ) → Happening
  Restart : (router : ℕ) → Happening
  SetMetric : (router place metric : ℕ) → Happening
  SetOverload : (router : ℕ) (on : Bool) → Happening
  SetPrefix : (router prefix : ℕ) (metric : Option ℕ) → Happening
  Inject : (router link : ℕ) (octets : List ℕ) → Happening

-- ---- what is sent

-- how many changes of keys each level's database has had (own)
abbrev pub changes_of : Router → Both ℕ
changes_of r = record {
  one = (book_of r level.One).changes;
  two = (book_of r level.Two).changes;
}

-- what a router sends on a link, by its state after the event (own)
abbrev pub post : ℕ → ℕ → Router → ℕ → Circuit → Sent → Datagram
post i link r place c says = record {
  sender = i;
  boot = r.boot;
  changes = changes_of r;
  link = link;
  config = r.config;
  place = place;
  circuit = c;
  says = says;
}

-- own
abbrev pub posts : ℕ → ℕ → Router → ℕ → Option Circuit → List Sent → List Datagram
posts i link r place None out = []
posts i link r place (Some c) out = map (post i link r place c) out

-- the datagrams of a reply on a link, none where the event is of no link (own)
abbrev pub posted : ℕ → Option ℕ → Router → ℕ → Reply → List Datagram
posted i None r place reply = []
posted i (Some link) r place Done = []
posted i (Some link) r place (Dropped cause) = []
posted i (Some link) r place (Send out) = posts i link r place (nth r.circuits place) out

-- a router takes an event: what it sends on the link joins the datagrams, its state those that were,
-- and the ranges that it took the others (own)
abbrev pub moved : Given → Network → ℕ → Option ℕ → Event → Router → List Taking → Network
moved given net i link event r takings =
    let o = step given r event in
    record net {
      routers = with_nth net.routers i o.router;
      datagrams = net.datagrams ++ posted i link o.router (place_of event) o.reply;
      past = o.router ∷ net.past;
      takings = takings ++ net.takings;
    }

-- the same where the router is there (own)
abbrev pub moved_if : Given → Network → ℕ → Option ℕ → Event → Option Router → Network
moved_if given net i link event None = net
moved_if given net i link event (Some r) = moved given net i link event r []

-- ---- what is delivered

-- what a router reads of octets on its circuit; where the circuit isn't there, nothing (own)
abbrev pub read_on : Router → Option Circuit → List ℕ → Message
read_on r None octets = Refused drop.WrongKind
read_on r (Some c) octets = read r.config c octets

-- octets are taken on the circuit at a place (own)
abbrev pub taking : Router → ℕ → List ℕ → Event
taking r place octets = Take place (read_on r (nth r.circuits place) octets)

-- What becomes of a delivery: the datagram isn't there yet; the router isn't an end of its link or
-- LAN, or sent it itself; or it arrives at the router's circuit there, also where its sender or the
-- router restarted since (own).
pub data Arrival : Type 0 where
  NotSent : Arrival
  NotOn : Arrival
  Arrives : (d : Datagram) (place : ℕ) → Arrival

-- the present boot of a router (own)
abbrev pub boot_of : Option Router → ℕ
boot_of None = 0
boot_of (Some r) = r.boot

-- own
abbrev pub on_place : Datagram → Option ℕ → Arrival
on_place d None = NotOn
on_place d (Some place) = Arrives d place

-- own
abbrev pub arrival : Network → Option Datagram → ℕ → Arrival
arrival net None router = NotSent
arrival net (Some d) router =
    if d.sender == router then NotOn else on_place d (place_at net d.link router)

-- own
abbrev pub arrive_at : Given → Network → ℕ → ℕ → ℕ → List ℕ → Option Router → Network
arrive_at given net i link place octets None = net
arrive_at given net i link place octets (Some r) =
    moved given net i (Some link) (taking r place octets) r []

-- the ranges that a router takes of a datagram on its circuit (own)
abbrev pub ranges_in : Given → ℕ → Router → ℕ → Datagram → List Taking
ranges_in given i r place d =
    let c = nth r.circuits place in
    let octets = octets_of d in
    ranges_of i r (step given r (taking r place octets)).router place c d (read_on r c octets)

-- own
abbrev pub deliver_at : Given → Network → ℕ → Datagram → ℕ → Option Router → Network
deliver_at given net i d place None = net
deliver_at given net i d place (Some r) =
    moved given net i (Some d.link) (taking r place (octets_of d)) r (ranges_in given i r place d)

-- own
abbrev pub arrive : Given → Network → ℕ → Arrival → Network
arrive given net i NotSent = net
arrive given net i NotOn = net
arrive given net i (Arrives d place) =
    deliver_at given net i d place (nth net.routers i)

-- ---- events

-- own
abbrev pub pull_at : Given → Network → ℕ → ℕ → Option ℕ → Network
pull_at given net i link None = net
pull_at given net i link (Some place) =
    moved_if given net i (Some link) (Pull place) (nth net.routers i)

-- own
abbrev pub restart_at : Network → ℕ → Option Router → Network
restart_at net i None = net
restart_at net i (Some r) = record net { routers = with_nth net.routers i (restarted r) }

-- own
abbrev pub inject_at : Given → Network → ℕ → ℕ → List ℕ → Option ℕ → Network
inject_at given net i link octets None = net
inject_at given net i link octets (Some place) =
    arrive_at given (record net { injected = risen net.injected }) i link place octets
    (nth net.routers i)

-- the network after an event; one that is refused changes nothing (own)
unfoldable pub apply : Given → Network → Happening → Network
apply given net (Tick i) = moved_if given net i None Second (nth net.routers i)
apply given net (PullOn i link) = pull_at given net i link (place_at net link i)
apply given net (Deliver n i) = arrive given net i (arrival net (numbered net.datagrams n) i)
apply given net (Restart i) = restart_at net i (nth net.routers i)
apply given net (SetMetric i place metric) =
    moved_if given net i None (Metric place metric) (nth net.routers i)
apply given net (SetOverload i on) =
    moved_if given net i None (Overload on) (nth net.routers i)
apply given net (SetPrefix i prefix metric) =
    moved_if given net i None (Prefix prefix metric) (nth net.routers i)
apply given net (Inject i link octets) = inject_at given net i link octets (place_at net link i)

-- the network after the events of a run, in order (own)
abbrev pub run : Given → Network → List Happening → Network
run given net [] = net
run given net (event ∷ events) = run given (apply given net event) events

-- own
abbrev pub is_injection : Happening → Bool
is_injection (Tick router) = false
is_injection (PullOn router link) = false
is_injection (Deliver number router) = false
is_injection (Restart router) = false
is_injection (SetMetric router place metric) = false
is_injection (SetOverload router on) = false
is_injection (SetPrefix router prefix metric) = false
is_injection (Inject router link octets) = true
