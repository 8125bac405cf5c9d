-- What an event does to what is seen of a network, and how a call that carries it out ends (own).
use Rattle.std.specs.Prelude.{◌≡◌, ℕ, ◌==◌, true, List, ◌++◌, map, length, Option, Some, None, Result, Ok, Err, IfErr, OnOk, if◌then◌else◌}
use Rattle.model_router.specs.Places.{with_nth}
use Rattle.model_router.specs.Routers.{Router}
use Rattle.model_router.specs.Events.{Event}
use Rattle.model_router.specs.Steps.{step}
use Rattle.model_router.specs.AdjacencyLaws.{place_of}
use Rattle.router_desk.specs.declared.circuit_config.CircuitConfig.{CircuitConfig}
use Rattle.router_desk.specs.declared.config.Config.{Config}
use Rattle.router_core.specs.Givens.{given}
use Rattle.model_network.specs.Networks.{Network}
use Rattle.model_network.specs.Runs.{posted}
use Rattle.network_lab.specs.declared.sent.Changes.{Changes}
use Rattle.network_lab.specs.declared.sent.SentDatagram.{SentDatagram}
use Rattle.network_lab.specs.declared.heard_range.HeardRange.{HeardRange}
use Rattle.network_lab.specs.declared.event.LabEvent.{LabEvent}
use Rattle.lab_keys.specs.declared.faults.LabFault.{LabFault}
use Rattle.lab_keys.specs.declared.faults.LabFault.TheVariants as fault
use Rattle.lab_keys.specs.declared.faults.LimitName.TheVariants as limit
use Rattle.network_lab.specs.LabNets.{Seen, LabNet, StandsFor, sent_of, sent_in}
use Rattle.network_lab.specs.LabConfigs.{configs_after}
use Rattle.network_lab.specs.LabTakings.{noted_in}
use Rattle.network_lab.specs.LabEvents.{refusal, after}
use Rattle.network_lab.specs.LabCauses.{IsStop, IsPast}

-- a configuration with another circuit at a place
abbrev pub with_circuit_at : Config → ℕ → CircuitConfig → Config
with_circuit_at config place c =
    record config { circuits = with_nth config.circuits place c }

-- a datagram of a router in a boot and at counts of changed keys, on a link
abbrev pub sent_by : ℕ → ℕ → Changes → ℕ → List ℕ → SentDatagram
sent_by sender boot changes link octets =
    record { sender = sender; boot = boot; changes = changes; link = link; octets = octets }

-- what a router sends in an event, as it is seen
abbrev pub posted_in : ℕ → Option ℕ → Event → Router → List SentDatagram
posted_in i link event r =
    let o = step given r event in
    map sent_of (posted i link o.router (place_of event) o.reply)

-- a router takes an event: what it sends on the link joins the datagrams, its state what is noted, and
-- the range that it heard too, where it takes that
abbrev pub moved_in : Seen → ℕ → Option ℕ → Event → Router → Option HeardRange → Seen
moved_in a i link event r heard = record a {
  routers = with_nth a.routers i (step given r event).router;
  sent = a.sent ++ posted_in i link event r;
  noted = noted_in heard (step given r event) a.noted;
}

-- why what is sent isn't kept: it is too much, and the first of it is kept; or memory was wanting
abbrev pub StopCause : List SentDatagram → List SentDatagram → LabFault → Type 0
StopCause sent kept fault.OutOfMemory = Unit {0}
StopCause sent kept (fault.Limit limit.Datagrams) = IsPast sent kept
StopCause sent kept fault = ⊥

-- the link on which a datagram is delivered, or why it isn't: it isn't there yet, or the router sent
-- it itself
abbrev pub delivered_on : Seen → Option SentDatagram → ℕ → Result ℕ LabFault
delivered_on a None router = Err (fault.NotSent (length a.sent))
delivered_on a (Some d) router =
    if d.sender == router then Err fault.NotOn else Ok d.link

-- the links and the number of routers stay
pub record SameSize (old new : LabNet) : Type 0 where
  pub links : new.seen.links ≡ old.seen.links
  pub routers : length new.seen.routers ≡ length old.seen.routers

-- how a network ends that is to be seen so: it is; or it is stopped
pub record Taken (old new : LabNet) (seen : Seen) (result : Result (Unit {0}) LabFault) : Type 0 where
  pub done : OnOk result (new ≡ record old { seen = seen; begun = true })
  pub stop : IfErr result (λ fault. new.stopped ≡ Some fault)
  pub cause : IfErr result (StopCause seen.sent new.seen.sent)
  pub size : SameSize old new

-- How an event of a network that wasn't stopped ends: it is carried out; it is refused, and nothing
-- changes; or the network is stopped.
pub data Ending (event : LabEvent) (old new : LabNet) (result : Result (Unit {0}) LabFault) : Type 0 where
  Done : result ≡ Ok tt → new.stopped ≡ None → SameSize old new
      → new.configs ≡ configs_after event old.configs
      → ((net : Network) → StandsFor net old
      → (refusal net event ≡ None) × StandsFor (after net event) new)
      → Ending event old new result
  Refused : (fault : LabFault) → result ≡ Err fault → new ≡ old → (IsStop fault → ⊥)
      → ((net : Network) → StandsFor net old → refusal net event ≡ Some fault)
      → Ending event old new result
  Stopped : (fault : LabFault) → result ≡ Err fault → new.stopped ≡ Some fault → SameSize old new
      → ((net : Network) → StandsFor net old
      → (refusal net event ≡ None) × StopCause (sent_in (after net event)) new.seen.sent fault)
      → Ending event old new result
