-- What an event of the model does to what is seen of a network.
use Rattle.std.proofs.Common.{◌≡◌, ℕ, ◌<◌, ◌≤◌, ◌==◌, ◌&&◌, not, nat_le, Bool, true, false, List, [], ◌∷◌, ◌++◌, length, Option, Some, None, Result, Ok, Err, is_some, if◌then◌else◌, refl, sym, ap, ◌∙◌, subst, arith}
use Rattle.std.specs.Option.{option_map}
use Rattle.std.proofs.lemmas.List.{map-append, length-map}
use Rattle.model_router.specs.Places.{nth, with_nth}
use Rattle.model_router.specs.Maps.{find}
use Rattle.model_router.specs.Books.{risen}
use Rattle.model_router.specs.Routers.{Router}
use Rattle.model_router.specs.Events.{Event, Second, Pull}
use Rattle.model_router.specs.Steps.{step}
use Rattle.model_router.specs.AdjacencyLaws.{place_of}
use Rattle.router_desk.specs.declared.config.Change.{Change}
use Rattle.router_desk.specs.declared.config.Change.TheVariants as change
use Rattle.isis_base.specs.Prefixes.{prefix_number}
use Rattle.router_core.specs.Events as core
use Rattle.router_core.specs.Givens.{given}
use Rattle.model_network.specs.Networks.{Datagram, octets_of, Taking, Network, place_in, place_at, numbered, restarted}
use Rattle.model_network.specs.Runs as model
use Rattle.model_network.specs.Runs.{posted, moved, moved_if, taking, arrival, on_place, pull_at, arrive, arrive_at, deliver_at, inject_at, restart_at, ranges_in, apply}
use Rattle.network_lab.specs.declared.sent.SentDatagram.{SentDatagram}
use Rattle.network_lab.specs.declared.event.LabEvent.{LabEvent}
use Rattle.network_lab.specs.declared.event.LabEvent.TheVariants as event
use Rattle.lab_keys.specs.declared.faults.LabFault.{LabFault}
use Rattle.lab_keys.specs.declared.faults.LabFault.TheVariants as fault
use Rattle.lab_keys.specs.declared.faults.LimitName.TheVariants as limit
use Rattle.network_lab.specs.LabNets.{Seen, LabNet, sent_of, seen_of}
use Rattle.network_lab.specs.LabConfigs.{configs_after}
use Rattle.network_lab.specs.LabEvents.{refusal, after, unless_on, unless_arrives, past_boots, unless_changes, IsChange, change_of}
use Rattle.network_lab.specs.declared.heard_range.HeardRange.{HeardRange}
use Rattle.network_lab.specs.LabTakings.{kept_ranges, IsHeard}
use Rattle.network_lab.specs.LabSteps.{moved_in, StopCause, delivered_on, Taken, Ending, Done, Stopped}
use Rattle.network_lab.proofs.PlaceLemmas.{some-same, numbered-map}

moved-is : (net : Network) (i : ℕ) (link : Option ℕ) (ev : Event) (r : Router) (takings : List Taking) (range : Option HeardRange) → takings ≡ kept_ranges range (step given r ev)
    → seen_of (moved given net i link ev r takings) ≡ moved_in (seen_of net) i link ev r range
moved-is net i link ev r takings range e =
    let o = step given r ev in
    ap (λ (ds : List SentDatagram). record { routers = with_nth net.routers i o.router; links = net.links; sent = ds; injected = net.injected; noted = record { past = o.router ∷ net.past; takings = takings ++ net.takings } })
    (map-append sent_of net.datagrams (posted i link o.router (place_of ev) o.reply))
    ∙ ap (λ (ts : List Taking). record (moved_in (seen_of net) i link ev r range) { noted = record { past = o.router ∷ net.past; takings = ts ++ net.takings } }) e

-- a router that is there takes an event
pub moved-at : (net : Network) (s : Seen) → seen_of net ≡ s → (i : ℕ) (link : Option ℕ) (ev : Event) (r : Router) → nth s.routers i ≡ Some r → seen_of (moved_if given net i link ev (nth net.routers i)) ≡ moved_in s i link ev r None
moved-at net s e i link ev r h =
    let p : nth net.routers i ≡ Some r = ap (λ (s : Seen). nth s.routers i) e ∙ h in
    ap (λ (o : Option Router). seen_of (moved_if given net i link ev o)) p ∙ (moved-is net i link ev r [] None refl ∙ ap (λ (s : Seen). moved_in s i link ev r None) e)

pub place-seen : (net : Network) (s : Seen) → seen_of net ≡ s → (link i : ℕ) → place_at net link i ≡ place_in (nth s.links link) i
place-seen net s e link i = ap (λ (s : Seen). place_in (nth s.links link) i) e

-- ---- seconds and pulls

pub tick-done : (s : Seen) (i : ℕ) (r : Router) → nth s.routers i ≡ Some r → (net : Network) → seen_of net ≡ s → (refusal net (event.Tick i) ≡ None) × (seen_of (after net (event.Tick i)) ≡ moved_in s i None Second r None)
unfolding apply
tick-done s i r h net e = (refl, moved-at net s e i None Second r h)

pub pull-off : (s : Seen) (link i : ℕ) → place_in (nth s.links link) i ≡ None → (net : Network) → seen_of net ≡ s → refusal net (event.Pull i link) ≡ Some fault.NotOn
pull-off s link i h net e = ap unless_on (place-seen net s e link i ∙ h)

pub pull-done : (s : Seen) (link i place : ℕ) (r : Router) → place_in (nth s.links link) i ≡ Some place → nth s.routers i ≡ Some r → (net : Network) → seen_of net ≡ s → (refusal net (event.Pull i link) ≡ None) × (seen_of (after net (event.Pull i link)) ≡ moved_in s i (Some link) (Pull place) r None)
unfolding apply
pull-done s link i place r p h net e =
    let at : place_at net link i ≡ Some place = place-seen net s e link i ∙ p in
    (ap unless_on at, ap (λ (o : Option ℕ). seen_of (pull_at given net i link o)) at ∙ moved-at net s e i (Some link) (Pull place) r h)

-- ---- deliveries

pub numbered-seen : (net : Network) (s : Seen) → seen_of net ≡ s → (n : ℕ) → option_map sent_of (numbered net.datagrams n) ≡ numbered s.sent n
numbered-seen net s e n = sym (numbered-map sent_of net.datagrams n) ∙ ap (λ (s : Seen). numbered s.sent n) e

off-by : (same : Bool) (count link : ℕ) (d : Datagram) (place : Option ℕ) (f : LabFault) → (if same then Err fault.NotOn else Ok link) ≡ Err f → unless_arrives count (if same then model.NotOn else on_place d place) ≡ Some f
off-by true count link d place f h = cc
off-by false count link d place f h = absurd (cc)

on-by : (same : Bool) (link to : ℕ) (d : Datagram) (place : Option ℕ) → (if same then Err fault.NotOn else Ok link) ≡ Ok to → (link ≡ to) × ((if same then model.NotOn else on_place d place) ≡ on_place d place)
on-by true link to d place h = absurd (cc)
on-by false link to d place h = (cc, refl)

deliver-off-of : (net : Network) (i : ℕ) (o : Option Datagram) (f : LabFault) → delivered_on (seen_of net) (option_map sent_of o) i ≡ Err f → unless_arrives (length net.datagrams) (arrival net o i) ≡ Some f
deliver-off-of net i None f h = let n = length-map net.datagrams sent_of in subst (λ (n : ℕ). Some (fault.NotSent n) ≡ Some f) n (cc)
deliver-off-of net i (Some d) f h = off-by (d.sender == i) (length net.datagrams) d.link d (place_at net d.link i) f h

pub deliver-off : (s : Seen) (n i : ℕ) (f : LabFault) → delivered_on s (numbered s.sent n) i ≡ Err f → (net : Network) → seen_of net ≡ s → refusal net (event.Deliver n i) ≡ Some f
deliver-off s n i f h net e = deliver-off-of net i (numbered net.datagrams n) f (ap (λ (s : Seen). delivered_on s (option_map sent_of (numbered net.datagrams n)) i) e ∙ (ap (λ (o : Option SentDatagram). delivered_on s o i) (numbered-seen net s e n) ∙ h))

-- a datagram that is delivered on a link
record Lands (net : Network) (n i link : ℕ) (x : SentDatagram) : Type 0 where
  d : Datagram
  arrives : arrival net (numbered net.datagrams n) i ≡ on_place d (place_at net link i)
  on : d.link ≡ link
  same : sent_of d ≡ x

lands-of : (net : Network) (s : Seen) → seen_of net ≡ s → (n i link : ℕ) (x : SentDatagram) (o : Option Datagram) → numbered net.datagrams n ≡ o → numbered s.sent n ≡ Some x → delivered_on s (numbered s.sent n) i ≡ Ok link → Lands net n i link x
lands-of net s e n i link x None q g h = absurd (let w = sym (ap (option_map sent_of) q) ∙ (numbered-seen net s e n ∙ g) in cc)
lands-of net s e n i link x (Some d) q g h = record {
  d = d;
  arrives = ap (λ (o : Option Datagram). arrival net o i) q ∙ (by.1 ∙ ap (λ (k : ℕ). on_place d (place_at net k i)) by.0);
  on = by.0;
  same = same;
}
  where
    there : Some (sent_of d) ≡ Some x
    there = sym (ap (option_map sent_of) q) ∙ (numbered-seen net s e n ∙ g)

    same : sent_of d ≡ x
    same = some-same (sent_of d) x there

    heard : delivered_on (seen_of net) (Some (sent_of d)) i ≡ Ok link
    heard = ap (λ (s : Seen). delivered_on s (Some (sent_of d)) i) e ∙ (ap (λ (o : Option SentDatagram). delivered_on s o i) (there ∙ sym g) ∙ h)

    by : (d.link ≡ link) × (arrival net (Some d) i ≡ on_place d (place_at net d.link i))
    by = on-by (d.sender == i) d.link link d (place_at net d.link i) heard

pub deliver-none : (s : Seen) (n i link : ℕ) (x : SentDatagram) → numbered s.sent n ≡ Some x → delivered_on s (numbered s.sent n) i ≡ Ok link → place_in (nth s.links link) i ≡ None → (net : Network) → seen_of net ≡ s → refusal net (event.Deliver n i) ≡ Some fault.NotOn
deliver-none s n i link x g h p net e =
    let l = lands-of net s e n i link x (numbered net.datagrams n) refl g h in
    ap (λ (a : _). unless_arrives (length net.datagrams) a) (l.arrives ∙ ap (on_place l.d) (place-seen net s e link i ∙ p))

pub deliver-on : (s : Seen) (n i link place : ℕ) (x : SentDatagram) → numbered s.sent n ≡ Some x → delivered_on s (numbered s.sent n) i ≡ Ok link → place_in (nth s.links link) i ≡ Some place → (net : Network) → seen_of net ≡ s → refusal net (event.Deliver n i) ≡ None
deliver-on s n i link place x g h p net e =
    let l = lands-of net s e n i link x (numbered net.datagrams n) refl g h in
    ap (λ (a : _). unless_arrives (length net.datagrams) a) (l.arrives ∙ ap (on_place l.d) (place-seen net s e link i ∙ p))

arrived : (net : Network) (s : Seen) → seen_of net ≡ s → (i link place : ℕ) (octets : List ℕ) (r : Router) → nth s.routers i ≡ Some r → seen_of (arrive_at given net i link place octets (nth net.routers i)) ≡ moved_in s i (Some link) (taking r place octets) r None
arrived net s e i link place octets r h =
    let p : nth net.routers i ≡ Some r = ap (λ (s : Seen). nth s.routers i) e ∙ h in
    ap (λ (o : Option Router). seen_of (arrive_at given net i link place octets o)) p ∙ (moved-is net i (Some link) (taking r place octets) r [] None refl ∙ ap (λ (s : Seen). moved_in s i (Some link) (taking r place octets) r None) e)

delivered : (net : Network) (s : Seen) → seen_of net ≡ s → (i place : ℕ) (d : Datagram) (r : Router) (range : Option HeardRange) → ranges_in given i r place d ≡ kept_ranges range (step given r (taking r place (octets_of d))) → nth s.routers i ≡ Some r
    → seen_of (deliver_at given net i d place (nth net.routers i)) ≡ moved_in s i (Some d.link) (taking r place (octets_of d)) r range
delivered net s e i place d r range ranges h =
    let p : nth net.routers i ≡ Some r = ap (λ (s : Seen). nth s.routers i) e ∙ h in
    let event = taking r place (octets_of d) in
    ap (λ (o : Option Router). seen_of (deliver_at given net i d place o)) p ∙ (moved-is net i (Some d.link) event r (ranges_in given i r place d) range ranges ∙ ap (λ (s : Seen). moved_in s i (Some d.link) event r range) e)

pub deliver-done : (s : Seen) (n i link place : ℕ) (x : SentDatagram) (r : Router) (range : Option HeardRange) → IsHeard i place r x range → numbered s.sent n ≡ Some x → delivered_on s (numbered s.sent n) i ≡ Ok link → place_in (nth s.links link) i ≡ Some place → nth s.routers i ≡ Some r → (net : Network) → seen_of net ≡ s
    → (refusal net (event.Deliver n i) ≡ None) × (seen_of (after net (event.Deliver n i)) ≡ moved_in s i (Some link) (taking r place x.octets) r range)
unfolding apply
deliver-done s n i link place x r range hears g h p k net e =
    let l = lands-of net s e n i link x (numbered net.datagrams n) refl g h in
    let says : octets_of l.d ≡ x.octets = ap (λ (y : SentDatagram). y.octets) l.same in
    let ranges : ranges_in given i r place l.d ≡ kept_ranges range (step given r (taking r place (octets_of l.d))) = hears.each l.d l.same ∙ ap (λ (b : List ℕ). kept_ranges range (step given r (taking r place b))) (sym says) in (
      deliver-on s n i link place x g h p net e,
      ap (λ (a : _). seen_of (arrive given net i a)) (l.arrives ∙ ap (on_place l.d) (place-seen net s e link i ∙ p))
          ∙ (delivered net s e i place l.d r range ranges k
          ∙ (ap (λ (k : ℕ). moved_in s i (Some k) (taking r place (octets_of l.d)) r range) l.on
          ∙ ap (λ (b : List ℕ). moved_in s i (Some link) (taking r place b) r range) says)),
    )

-- ---- injections

pub inject-off : (s : Seen) (link i : ℕ) (octets : List ℕ) → place_in (nth s.links link) i ≡ None → (net : Network) → seen_of net ≡ s → refusal net (event.Inject i link octets) ≡ Some fault.NotOn
inject-off s link i octets h net e = ap unless_on (place-seen net s e link i ∙ h)

pub inject-done : (s : Seen) (link i place : ℕ) (octets : List ℕ) (r : Router) → place_in (nth s.links link) i ≡ Some place → nth s.routers i ≡ Some r → (net : Network) → seen_of net ≡ s
    → (refusal net (event.Inject i link octets) ≡ None) × (seen_of (after net (event.Inject i link octets)) ≡ moved_in (record s { injected = risen s.injected }) i (Some link) (taking r place octets) r None)
unfolding apply
inject-done s link i place octets r p h net e =
    let at : place_at net link i ≡ Some place = place-seen net s e link i ∙ p in
    let more : seen_of (record net { injected = risen net.injected }) ≡ record s { injected = risen s.injected } = ap (λ (s : Seen). record s { injected = risen s.injected }) e in
    (ap unless_on at, ap (λ (o : Option ℕ). seen_of (inject_at given net i link octets o)) at ∙ arrived (record net { injected = risen net.injected }) (record s { injected = risen s.injected }) more i link place octets r h)

-- ---- restarts

boots-past : (r : Router) → 16777215 ≤ r.boot → past_boots (Some r) ≡ Some (fault.Limit limit.Boots)
boots-past r h = rw (le-true 16777215 r.boot h) refl
  where
    le-true : (a b : ℕ) → a ≤ b → nat_le a b ≡ true
    le-true a b h = grind (arith)

boots-left : (r : Router) → r.boot < 16777215 → past_boots (Some r) ≡ None
boots-left r h = rw (le-false 16777215 r.boot h) refl
  where
    le-false : (a b : ℕ) → b < a → nat_le a b ≡ false
    le-false a b h = grind (arith)

pub restart-off : (s : Seen) (i : ℕ) (r : Router) → nth s.routers i ≡ Some r → 16777215 ≤ r.boot → (net : Network) → seen_of net ≡ s → refusal net (event.Restart i) ≡ Some (fault.Limit limit.Boots)
restart-off s i r h b net e = ap past_boots (ap (λ (s : Seen). nth s.routers i) e ∙ h) ∙ boots-past r b

pub restart-done : (s : Seen) (i : ℕ) (r : Router) → nth s.routers i ≡ Some r → r.boot < 16777215 → (net : Network) → seen_of net ≡ s
    → (refusal net (event.Restart i) ≡ None) × (seen_of (after net (event.Restart i)) ≡ record s { routers = with_nth s.routers i (restarted r) })
unfolding apply
restart-done s i r h b net e =
    let p : nth net.routers i ≡ Some r = ap (λ (s : Seen). nth s.routers i) e ∙ h in
    (ap past_boots p ∙ boots-left r b, ap (λ (o : Option Router). seen_of (restart_at net i o)) p ∙ ap (λ (s : Seen). record s { routers = with_nth s.routers i (restarted r) }) e)

-- ---- changes

pub change-off : (s : Seen) (i : ℕ) (c : Change) (r : Router) (f : LabFault) → nth s.routers i ≡ Some r → unless_changes (Some r) c ≡ Some f → (net : Network) → seen_of net ≡ s → refusal net (event.Change i c) ≡ Some f
change-off s i c r f h u net e = ap (λ (o : Option Router). unless_changes o c) (ap (λ (s : Seen). nth s.routers i) e ∙ h) ∙ u

change-after : (net : Network) (i : ℕ) (c : Change) → apply given net (change_of i c) ≡ moved_if given net i None (core.change_of c) (nth net.routers i)
unfolding apply
change-after net i (change.Metric circuit metric) = refl
change-after net i (change.Prefix prefix metric) = refl
change-after net i (change.Overload on) = refl

pub change-done : (s : Seen) (i : ℕ) (c : Change) (r : Router) → nth s.routers i ≡ Some r → unless_changes (Some r) c ≡ None → (net : Network) → seen_of net ≡ s
    → (refusal net (event.Change i c) ≡ None) × (seen_of (after net (event.Change i c)) ≡ moved_in s i None (core.change_of c) r None)
change-done s i c r h u net e = (
  ap (λ (o : Option Router). unless_changes o c) (ap (λ (s : Seen). nth s.routers i) e ∙ h) ∙ u,
  ap seen_of (change-after net i c) ∙ moved-at net s e i None (core.change_of c) r h,
)

pub fits-change : (r : Router) (c : Change) → IsChange r c → unless_changes (Some r) c ≡ None → core.FitsChange r c
fits-change r (change.Metric circuit metric) h u = h
fits-change r (change.Prefix prefix None) h u = tt
fits-change r (change.Prefix prefix (Some metric)) h u = (h, room (find r.config.prefixes (prefix_number prefix)) (length r.config.prefixes) u)
  where
    room : {A : Type 0} (o : Option A) (count : ℕ) → (if not (is_some o) && nat_le 4096 count then Some (fault.Limit limit.Prefixes) else None) ≡ None → o ≡ None → count < 4096
    room None count u e = few (nat_le 4096 count) refl u
      where
        few : (b : Bool) → nat_le 4096 count ≡ b → (if b then Some (fault.Limit limit.Prefixes) else None) ≡ None → count < 4096
        few true q u = absurd (cc)
        few false q u = grind (arith, q)
    room (Some x) count u e = absurd (cc)
fits-change r (change.Overload on) h u = tt

-- ---- how a call ends

pub taken-ends : (ev : LabEvent) (old new : LabNet) (seen : Seen) (result : Result (Unit {0}) LabFault) → old.stopped ≡ None → configs_after ev old.configs ≡ old.configs → Taken old new seen result → ((net : Network) → seen_of net ≡ old.seen → (refusal net ev ≡ None) × (seen_of (after net ev) ≡ seen)) → Ending ev old new result
taken-ends ev old new seen (Ok u) running calm t f = Done refl (ap (λ (a : LabNet). a.stopped) t.done ∙ running) t.size (ap (λ (a : LabNet). a.configs) t.done ∙ sym calm)
    (λ net k. ((f net k.seen).0, record { seen = (f net k.seen).1 ∙ sym (ap (λ (a : LabNet). a.seen) t.done) }))
taken-ends ev old new seen (Err f) running calm t g = Stopped f refl t.stop t.size
    (λ net k. ((g net k.seen).0, subst (λ (xs : List SentDatagram). StopCause xs new.seen.sent f) (sym (ap (λ (s : Seen). s.sent) (g net k.seen).1)) t.cause))
