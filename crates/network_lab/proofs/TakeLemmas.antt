-- How each event of a network ends.
use Rattle.std.proofs.Common.{◌≡◌, ℕ, zero, suc, ◌-◌, ◌<◌, ◌≤◌, ◌==◌, ◌&&◌, not, nat_le, is_some, Bool, true, false, List, [], ◌∷◌, ◌++◌, get_or, unwrap_or, map, length, Option, Some, None, Result, Ok, Err, IfSome, IfErr, OnOk, if◌then◌else◌, refl, sym, ap, ◌∙◌, subst, arith}
use Rattle.std.specs.Option.{option_map}
use Rattle.std.specs.Result.{result_err}
use Rattle.std.proofs.lemmas.List.{length-map}
use Rattle.model_router.proofs.BookLemmas.{same-or}
use Rattle.model_router.specs.Places.{nth, with_nth}
use Rattle.model_router.specs.Books.{risen}
use Rattle.model_router.specs.Routers.{Router}
use Rattle.model_router.specs.Events.{Event, Second, Pull}
use Rattle.model_router.specs.Steps.{step}
use Rattle.router_desk.specs.declared.circuit_config.CircuitConfig.{CircuitConfig}
use Rattle.router_desk.specs.declared.config.Config.{Config}
use Rattle.model_router.specs.Maps.{find}
use Rattle.isis_base.specs.Prefixes.{prefix_number}
use Rattle.router_desk.specs.declared.config.Change.{Change}
use Rattle.router_desk.specs.declared.config.Change.TheVariants as change
use Rattle.router_core.specs.declared.event.NodeEvent.{NodeEvent}
use Rattle.router_core.specs.Events as core
use Rattle.router_core.specs.Events.{event_of}
use Rattle.router_core.specs.Givens.{given}
use Rattle.model_network.specs.declared.end.End.{End}
use Rattle.model_network.specs.Networks.{Network, place_on, place_in, numbered, restarted}
use Rattle.model_network.specs.Runs as model
use Rattle.model_network.specs.Runs.{taking}
use Rattle.network_lab.specs.declared.notes.Notes.{Notes}
use Rattle.network_lab.specs.declared.sent.SentDatagram.{SentDatagram}
use Rattle.network_lab.specs.declared.event.LabEvent.{LabEvent}
use Rattle.network_lab.specs.declared.event.LabEvent.TheVariants as event
use Rattle.lab_keys.specs.declared.faults.LabFault.{LabFault}
use Rattle.lab_keys.specs.declared.faults.LabFault.TheVariants as fault
use Rattle.lab_keys.specs.declared.faults.LimitName.TheVariants as limit
use Rattle.network_lab.specs.LabNets.{Seen, LabNet, seen_of, at_circuit}
use Rattle.network_lab.specs.LabConfigs.{config_after, changed_at, configs_after}
use Rattle.network_lab.specs.LabEvents.{refusal, after, unless_changes, change_of}
use Rattle.network_lab.specs.LabCauses.{IsStop}
use Rattle.network_lab.specs.LabInside.{shape_of, shapes_of, AreEndsThere, IsNet}
use Rattle.network_lab.specs.declared.heard_range.HeardRange.{HeardRange}
use Rattle.network_lab.specs.LabTakings.{noted_in, IsHeard}
use Rattle.network_lab.specs.LabSteps.{moved_in, posted_in, StopCause, delivered_on, Taken, Ending, Done, Refused, Stopped}
use Rattle.network_lab.proofs.PlaceLemmas.{nth-there, nth-less, nth-get, nth-map, of-place, to-place, some-same, length-with}
use Rattle.network_lab.proofs.LinkLemmas.{all-at}
use Rattle.network_lab.proofs.EventLemmas.{tick-done, pull-off, pull-done, deliver-off, deliver-none, deliver-on, deliver-done, inject-off, inject-done, restart-off, restart-done, change-off, change-done, taken-ends}
use Rattle.network_lab.proofs.ReachedLemmas.{risen-some, run-goes}
use Rattle.network_lab.proofs.StartLemmas.{has-run}
use Rattle.network_lab.specs.Claims.{IsClaimed}
use Rattle.network_lab.specs.Reached.{HasRun, AreSmall, IsFitting, Happens, Happen}
use Rattle.network_lab.proofs.LabLemmas.{net-goes}

-- ---- a router takes an event

view : List Config → List Router → List (List End) → List SentDatagram → ℕ → Notes → Bool → Option LabFault → LabNet
view configs rs links ds n ts begun stopped = record {
  configs = configs;
  seen = record { routers = rs; links = links; sent = ds; injected = n; noted = ts };
  begun = begun;
  stopped = stopped;
}

taken-of : (configs : List Config) (rs now : List Router) (links : List (List End)) (ds sent : List SentDatagram) (n : ℕ) (ts us : Notes) (begun : Bool) (i : ℕ) (link : Option ℕ) (event : NodeEvent) (range : Option HeardRange) (res : Result (Unit {0}) LabFault) (r : Router)
    → OnOk res (now ≡ with_nth rs i (step given r (event_of r event)).router) → OnOk res (sent ≡ ds ++ posted_in i link (event_of r event) r) → OnOk res (us ≡ noted_in range (step given r (event_of r event)) ts) → IfErr res (StopCause (ds ++ posted_in i link (event_of r event) r) sent) → shapes_of now ≡ shapes_of rs
    → Taken (view configs rs links ds n ts begun None) (view configs now links sent n us true (result_err res)) (moved_in (view configs rs links ds n ts begun None).seen i link (event_of r event) r range) res
unfolding view
taken-of configs rs now links ds sent n ts us begun i link event range (Ok u) r a b w c k = record {
  done = both a b w;
  stop = tt;
  cause = tt;
  size = record { links = refl; routers = sym (length-map now shape_of) ∙ (ap length k ∙ length-map rs shape_of) };
}
  where
    both : {x y : List Router} {v w : List SentDatagram} {p q : Notes} → x ≡ y → v ≡ w → p ≡ q → view configs x links v n p true None ≡ view configs y links w n q true None
    both e f g = cc
taken-of configs rs now links ds sent n ts us begun i link event range (Err f) r a b w c k = record {
  done = tt;
  stop = refl;
  cause = c;
  size = record { links = refl; routers = sym (length-map now shape_of) ∙ (ap length k ∙ length-map rs shape_of) };
}

pub take-ends : (configs : List Config) (rs now : List Router) (links : List (List End)) (ds sent : List SentDatagram) (n : ℕ) (ts us : Notes) (begun : Bool) (stopped stop : Option LabFault) (old : LabNet) (i : ℕ) (link : Option ℕ) (event : NodeEvent) (range : Option HeardRange) (res : Result (Unit {0}) LabFault)
    → (record { configs = configs; seen = record { routers = rs; links = links; sent = ds; injected = n; noted = ts }; begun = begun; stopped = stopped }) ≡ old → old.stopped ≡ None
    → OnOk res (IfSome (nth rs i) (λ r. now ≡ with_nth rs i (step given r (event_of r event)).router)) → OnOk res (IfSome (nth rs i) (λ r. sent ≡ ds ++ posted_in i link (event_of r event) r)) → OnOk res (IfSome (nth rs i) (λ r. us ≡ noted_in range (step given r (event_of r event)) ts)) → IfErr res (λ f. IfSome (nth rs i) (λ r. StopCause (ds ++ posted_in i link (event_of r event) r) sent f))
    → shapes_of now ≡ shapes_of rs → stop ≡ result_err res
    → IfSome (nth old.seen.routers i) (λ r. Taken old (record { configs = configs; seen = record { routers = now; links = links; sent = sent; injected = n; noted = us }; begun = true; stopped = stop }) (moved_in old.seen i link (event_of r event) r range) res)
unfolding view
take-ends configs rs now links ds sent n ts us begun stopped stop old i link event range res is running a b w c k s =
    subst (λ (old : LabNet). IfSome (nth old.seen.routers i) (λ r. Taken old (record { configs = configs; seen = record { routers = now; links = links; sent = sent; injected = n; noted = us }; begun = true; stopped = stop }) (moved_in old.seen i link (event_of r event) r range) res)) (none ∙ is)
    (subst (λ (stop : Option LabFault). IfSome (nth rs i) (λ r. Taken (view configs rs links ds n ts begun None) (view configs now links sent n us true stop) (moved_in (view configs rs links ds n ts begun None).seen i link (event_of r event) r range) res)) (sym s) (of (nth rs i) refl res a b w c))
  where
    none : view configs rs links ds n ts begun None ≡ view configs rs links ds n ts begun stopped
    none = ap (λ (x : Option LabFault). view configs rs links ds n ts begun x) (sym (ap (λ (l : LabNet). l.stopped) is ∙ running))

    of : (o : Option Router) → nth rs i ≡ o → (res : Result (Unit {0}) LabFault) → OnOk res (IfSome o (λ r. now ≡ with_nth rs i (step given r (event_of r event)).router)) → OnOk res (IfSome o (λ r. sent ≡ ds ++ posted_in i link (event_of r event) r)) → OnOk res (IfSome o (λ r. us ≡ noted_in range (step given r (event_of r event)) ts)) → IfErr res (λ f. IfSome o (λ r. StopCause (ds ++ posted_in i link (event_of r event) r) sent f))
        → IfSome o (λ r. Taken (view configs rs links ds n ts begun None) (view configs now links sent n us true (result_err res)) (moved_in (view configs rs links ds n ts begun None).seen i link (event_of r event) r range) res)
    of None q res a b w c = tt
    of (Some r) q (Ok u) a b w c = taken-of configs rs now links ds sent n ts us begun i link event range (Ok u) r a b w c k
    of (Some r) q (Err f) a b w c = taken-of configs rs now links ds sent n ts us begun i link event range (Err f) r a b w c k

-- a datagram that is delivered is there
heard : (a : Seen) (o : Option SentDatagram) (i link : ℕ) → delivered_on a o i ≡ Ok link → (x : SentDatagram) × (o ≡ Some x)
heard a None i link h = absurd (cc)
heard a (Some x) i link h = (x, refl)

-- ---- what is seen then is a network in its run

pub each-place : {A : Type 0} (Q : A → Type 0) (o : Option A) → ((x : A) → o ≡ Some x → Q x) → IfSome o Q
each-place Q None f = tt
each-place Q (Some x) f = f x refl

pub take-runs : (ports : List (List ℕ)) (ordered : List (List End)) (configs : List Config) (rs now : List Router) (links : List (List End)) (ds sent : List SentDatagram) (n : ℕ) (ts us : Notes) (begun : Bool) (stopped stop : Option LabFault) (old : LabNet) (i : ℕ) (link : Option ℕ) (event : NodeEvent) (range : Option HeardRange) (res : Result (Unit {0}) LabFault)
    → (record { configs = configs; seen = record { routers = rs; links = links; sent = ds; injected = n; noted = ts }; begun = begun; stopped = stopped }) ≡ old → old.stopped ≡ None → i < length old.seen.routers
    → IsNet ports ordered (record { configs = configs; seen = record { routers = rs; links = links; sent = ds; injected = n; noted = ts }; begun = begun; stopped = stopped })
    → OnOk res (IfSome (nth rs i) (λ r. now ≡ with_nth rs i (step given r (event_of r event)).router)) → OnOk res (IfSome (nth rs i) (λ r. sent ≡ ds ++ posted_in i link (event_of r event) r)) → OnOk res (IfSome (nth rs i) (λ r. us ≡ noted_in range (step given r (event_of r event)) ts)) → AreSmall sent → stop ≡ result_err res
    → IfSome (nth old.seen.routers i) (λ r. Happen old.seen (moved_in old.seen i link (event_of r event) r range))
    → stop ≡ None → n ≡ 0 → HasRun (record { routers = now; links = links; sent = sent; injected = n; noted = us })
take-runs ports ordered configs rs now links ds sent n ts us begun stopped stop old i link event range (Err f) is running inside h a b w small s happens going none = absurd (let clash = sym s ∙ going in cc)
take-runs ports ordered configs rs now links ds sent n ts us begun stopped stop old i link event range (Ok u) is running inside h a b w small s happens going none =
    run-goes later before.net before.reached
    (subst (λ (x : Seen). Happens before.net x) (later-is) (subst (λ (x : Seen). Happens before.net (moved_in x i link (event_of r event) r range)) (sym seen) (happened (ap (λ (x : Seen). x.injected) (sym seen) ∙ none) before.net (before.seen ∙ seen))))
    small none
  where
    later : Seen
    later = record { routers = now; links = links; sent = sent; injected = n; noted = us }

    first : Seen
    first = record { routers = rs; links = links; sent = ds; injected = n; noted = ts }

    seen : first ≡ old.seen
    seen = ap (λ (l : LabNet). l.seen) is

    before : HasRun first
    before = has-run ports ordered (record { configs = configs; seen = first; begun = begun; stopped = stopped }) h (ap (λ (l : LabNet). l.stopped) is ∙ running) none

    there : (r : Router) × (nth old.seen.routers i ≡ Some r)
    there = nth-there old.seen.routers i inside

    r : Router
    r = there.0

    at : nth rs i ≡ Some r
    at = ap (λ (x : Seen). nth x.routers i) seen ∙ there.1

    happened : Happen old.seen (moved_in old.seen i link (event_of r event) r range)
    happened = of-place (λ r. Happen old.seen (moved_in old.seen i link (event_of r event) r range)) (nth old.seen.routers i) r there.1 happens

    both : {x y : List Router} {v w : List SentDatagram} {p q : Notes} → x ≡ y → v ≡ w → p ≡ q → ◌≡◌ {A = Seen} (record { routers = x; links = links; sent = v; injected = n; noted = p }) (record { routers = y; links = links; sent = w; injected = n; noted = q })
    both e f g = cc

    later-is : moved_in first i link (event_of r event) r range ≡ later
    later-is = sym (both (of-place (λ r. now ≡ with_nth rs i (step given r (event_of r event)).router) (nth rs i) r at a) (of-place (λ r. sent ≡ ds ++ posted_in i link (event_of r event) r) (nth rs i) r at b)
        (of-place (λ r. us ≡ noted_in range (step given r (event_of r event)) ts) (nth rs i) r at w))

pub take-goes : (ports : List (List ℕ)) (ordered : List (List End)) (configs : List Config) (rs now : List Router) (links : List (List End)) (ds sent : List SentDatagram) (n : ℕ) (ts us : Notes) (begun : Bool) (stopped stop : Option LabFault) (old : LabNet) (i : ℕ) (link : Option ℕ) (event : NodeEvent) (range : Option HeardRange) (res : Result (Unit {0}) LabFault)
    → (record { configs = configs; seen = record { routers = rs; links = links; sent = ds; injected = n; noted = ts }; begun = begun; stopped = stopped }) ≡ old → old.stopped ≡ None → i < length old.seen.routers
    → IsNet ports ordered (record { configs = configs; seen = record { routers = rs; links = links; sent = ds; injected = n; noted = ts }; begun = begun; stopped = stopped })
    → OnOk res (IfSome (nth rs i) (λ r. now ≡ with_nth rs i (step given r (event_of r event)).router)) → OnOk res (IfSome (nth rs i) (λ r. sent ≡ ds ++ posted_in i link (event_of r event) r)) → OnOk res (IfSome (nth rs i) (λ r. us ≡ noted_in range (step given r (event_of r event)) ts)) → AreSmall sent → stop ≡ result_err res
    → IfSome (nth old.seen.routers i) (λ r. Happen old.seen (moved_in old.seen i link (event_of r event) r range))
    → shapes_of now ≡ shapes_of rs → length sent ≤ 262144
    → IsNet ports ordered (record { configs = configs; seen = record { routers = now; links = links; sent = sent; injected = n; noted = us }; begun = true; stopped = stop })
take-goes ports ordered configs rs now links ds sent n ts us begun stopped stop old i link event range res is running inside h a b w small s happens counts few =
    net-goes ports ordered (record { configs = configs; seen = record { routers = rs; links = links; sent = ds; injected = n; noted = ts }; begun = begun; stopped = stopped }) now sent n us stop h counts few small
    (take-runs ports ordered configs rs now links ds sent n ts us begun stopped stop old i link event range res is running inside h a b w small s happens)

pub give-happens : (s : Seen) (rs : List Router) (i link place : ℕ) (e : NodeEvent) (octets : List ℕ) → rs ≡ s.routers → IfSome (nth rs i) (λ r. event_of r e ≡ taking r place octets)
    → IfSome (nth s.routers i) (λ r. Happen s (moved_in s i (Some link) (taking r place octets) r None)) → IfSome (nth s.routers i) (λ r. Happen s (moved_in s i (Some link) (event_of r e) r None))
give-happens s rs i link place e octets same is h = of (nth s.routers i) (subst (λ (xs : List Router). IfSome (nth xs i) (λ r. event_of r e ≡ taking r place octets)) same is) h
  where
    of : (o : Option Router) → IfSome o (λ r. event_of r e ≡ taking r place octets) → IfSome o (λ r. Happen s (moved_in s i (Some link) (taking r place octets) r None)) → IfSome o (λ r. Happen s (moved_in s i (Some link) (event_of r e) r None))
    of None q h = tt
    of (Some r) q h = subst (λ (x : Event). Happen s (moved_in s i (Some link) x r None)) (sym q) h

-- ---- seconds and pulls

pub tick-happens : (old : LabNet) (i : ℕ) → IfSome (nth old.seen.routers i) (λ r. Happen old.seen (moved_in old.seen i None Second r None))
tick-happens old i = each-place (λ r. Happen old.seen (moved_in old.seen i None Second r None)) (nth old.seen.routers i)
    (λ r q none net e. record { event = model.Tick i; fits = tt; seen = (tick-done old.seen i r q net e).1 })

pub pull-happens : (old : LabNet) (i link circuit : ℕ) (o : Option ℕ) → o ≡ Some circuit → option_map (λ circuit. circuit - 1) o ≡ place_in (nth old.seen.links link) i
    → IfSome (nth old.seen.routers i) (λ r. Happen old.seen (moved_in old.seen i (Some link) (Pull (circuit - 1)) r None))
pull-happens old i link circuit o q e = each-place (λ r. Happen old.seen (moved_in old.seen i (Some link) (Pull (circuit - 1)) r None)) (nth old.seen.routers i)
    (λ r at none net k. record { event = model.PullOn i link; fits = tt; seen = (pull-done old.seen link i (circuit - 1) r (sym e ∙ ap (option_map (λ circuit. circuit - 1)) q) at net k).1 })

-- what a router hears in the datagram of a number
abbrev Hears : LabNet → ℕ → ℕ → ℕ → NodeEvent → Option HeardRange → Type 0
Hears old n i circuit ev range =
    IfSome (nth old.seen.routers i) (λ r. IfSome (nth old.seen.sent (n - 1)) (λ d. event_of r ev ≡ taking r (circuit - 1) d.octets))
    × IfSome (nth old.seen.routers i) (λ r. IfSome (nth old.seen.sent (n - 1)) (λ d. IsHeard i (circuit - 1) r d range))

numbered-nth : {A : Type 0} (xs : List A) (n : ℕ) (x : A) → numbered xs n ≡ Some x → nth xs (n - 1) ≡ Some x
numbered-nth xs zero x e = absurd (cc)
numbered-nth xs (suc n) x e = ap (nth xs) (less n) ∙ e
  where
    less : (n : ℕ) → suc n - 1 ≡ n
    less n = omega arith

-- a router takes a datagram that is delivered
hears-done : (old : LabNet) (n i link circuit : ℕ) (o : Option ℕ) (ev : NodeEvent) (range : Option HeardRange) (r : Router) → delivered_on old.seen (numbered old.seen.sent n) i ≡ Ok link → o ≡ Some circuit → option_map (λ circuit. circuit - 1) o ≡ place_in (nth old.seen.links link) i
    → Hears old n i circuit ev range → nth old.seen.routers i ≡ Some r → (net : Network) → seen_of net ≡ old.seen
    → (refusal net (event.Deliver n i) ≡ None) × (seen_of (after net (event.Deliver n i)) ≡ moved_in old.seen i (Some link) (event_of r ev) r range)
hears-done old n i link circuit o ev range r d q e hears at net k = (done.0, done.1 ∙ ap (λ (v : Event). moved_in old.seen i (Some link) v r range) (sym (at_r (λ r d. event_of r ev ≡ taking r (circuit - 1) d.octets) hears.0)))
  where
    x : (x : SentDatagram) × (numbered old.seen.sent n ≡ Some x)
    x = heard old.seen (numbered old.seen.sent n) i link d

    at_r : (P : Router → SentDatagram → Type 0) → IfSome (nth old.seen.routers i) (λ r. IfSome (nth old.seen.sent (n - 1)) (P r)) → P r x.0
    at_r P h = of-place (P r) (nth old.seen.sent (n - 1)) x.0 (numbered-nth old.seen.sent n x.0 x.1)
        (of-place (λ (r : Router). IfSome (nth old.seen.sent (n - 1)) (P r)) (nth old.seen.routers i) r at h)

    done : (refusal net (event.Deliver n i) ≡ None) × (seen_of (after net (event.Deliver n i)) ≡ moved_in old.seen i (Some link) (taking r (circuit - 1) x.0.octets) r range)
    done = deliver-done old.seen n i link (circuit - 1) x.0 r range (at_r (λ r d. IsHeard i (circuit - 1) r d range) hears.1) x.1 d (sym e ∙ ap (option_map (λ circuit. circuit - 1)) q) at net k

pub deliver-happens : (old : LabNet) (n i link circuit : ℕ) (o : Option ℕ) (ev : NodeEvent) (range : Option HeardRange) → delivered_on old.seen (numbered old.seen.sent n) i ≡ Ok link → o ≡ Some circuit → option_map (λ circuit. circuit - 1) o ≡ place_in (nth old.seen.links link) i
    → IfSome (nth old.seen.routers i) (λ r. IfSome (nth old.seen.sent (n - 1)) (λ d. event_of r ev ≡ taking r (circuit - 1) d.octets))
    → IfSome (nth old.seen.routers i) (λ r. IfSome (nth old.seen.sent (n - 1)) (λ d. IsHeard i (circuit - 1) r d range))
    → IfSome (nth old.seen.routers i) (λ r. Happen old.seen (moved_in old.seen i (Some link) (event_of r ev) r range))
deliver-happens old n i link circuit o ev range d q e says hears = each-place (λ r. Happen old.seen (moved_in old.seen i (Some link) (event_of r ev) r range)) (nth old.seen.routers i)
    (λ r at none net k. record { event = model.Deliver n i; fits = tt; seen = (hears-done old n i link circuit o ev range r d q e (says, hears) at net k).1 })

pub inject-happens : (mid : LabNet) (n i : ℕ) (later : Router → Seen) → mid.seen.injected ≡ risen n → IfSome (nth mid.seen.routers i) (λ r. Happen mid.seen (later r))
inject-happens mid n i later is = each-place (λ r. Happen mid.seen (later r)) (nth mid.seen.routers i) (λ r at none net k. absurd (risen-some n (sym is ∙ none)))

change-fits : (net : Network) (i : ℕ) (c : Change) (r : Router) → nth net.routers i ≡ Some r → core.FitsChange r c → IsFitting net (change_of i c)
change-fits net i (change.Metric circuit metric) r q h = tt
change-fits net i (change.Prefix prefix metric) r q h = to-place (λ (r : Router). core.FitsPrefix r (prefix_number prefix) metric) (nth net.routers i) r q h
change-fits net i (change.Overload on) r q h = tt

pub change-happens : (old : LabNet) (i : ℕ) (c : Change) (r : Router) → nth old.seen.routers i ≡ Some r → core.FitsChange r c → unless_changes (Some r) c ≡ None → IfSome (nth old.seen.routers i) (λ r. Happen old.seen (moved_in old.seen i None (core.change_of c) r None))
change-happens old i c r q fits h = to-place (λ (r : Router). Happen old.seen (moved_in old.seen i None (core.change_of c) r None)) (nth old.seen.routers i) r q
    (λ none net e. record { event = change_of i c; fits = change-fits net i c r (ap (λ (s : Seen). nth s.routers i) e ∙ q) fits; seen = (change-done old.seen i c r q h net e).1 })

pub restart-happens : (old : LabNet) (i : ℕ) (r : Router) → nth old.seen.routers i ≡ Some r → r.boot < 16777215 → Happen old.seen (record old.seen { routers = with_nth old.seen.routers i (restarted r) })
restart-happens old i r q b none net e = record {
  event = model.Restart i;
  fits = to-place (λ (r : Router). r.boot < 16777215) (nth net.routers i) r (ap (λ (s : Seen). nth s.routers i) e ∙ q) b;
  seen = (restart-done old.seen i r q b net e).1;
}

pub restart-goes : (ports : List (List ℕ)) (ordered : List (List End)) (configs : List Config) (rs now : List Router) (links : List (List End)) (ds : List SentDatagram) (n : ℕ) (ts : Notes) (begun : Bool) (stopped : Option LabFault) (i : ℕ) (r : Router)
    → IsNet ports ordered (record { configs = configs; seen = record { routers = rs; links = links; sent = ds; injected = n; noted = ts }; begun = begun; stopped = stopped })
    → nth rs i ≡ Some r → r.boot < 16777215 → now ≡ with_nth rs i (restarted r) → shapes_of now ≡ shapes_of rs
    → IsNet ports ordered (record { configs = configs; seen = record { routers = now; links = links; sent = ds; injected = n; noted = ts }; begun = true; stopped = stopped })
restart-goes ports ordered configs rs now links ds n ts begun stopped i r h at b is counts = net-goes ports ordered whole now ds n ts stopped h counts h.few h.small runs
  where
    whole : LabNet
    whole = record { configs = configs; seen = record { routers = rs; links = links; sent = ds; injected = n; noted = ts }; begun = begun; stopped = stopped }

    runs : stopped ≡ None → n ≡ 0 → HasRun (record { routers = now; links = links; sent = ds; injected = n; noted = ts })
    runs going none =
        let before = has-run ports ordered whole h going none in
        run-goes (record { routers = now; links = links; sent = ds; injected = n; noted = ts }) before.net before.reached
        (subst (λ (xs : List Router). Happens before.net (record { routers = xs; links = links; sent = ds; injected = n; noted = ts })) (sym is) (restart-happens whole i r at b none before.net before.seen)) h.small none

pub same-goes : (ports : List (List ℕ)) (ordered : List (List End)) (configs : List Config) (rs now : List Router) (links : List (List End)) (ds : List SentDatagram) (n : ℕ) (ts : Notes) (begun : Bool) (stopped : Option LabFault)
    → IsNet ports ordered (record { configs = configs; seen = record { routers = rs; links = links; sent = ds; injected = n; noted = ts }; begun = begun; stopped = stopped })
    → now ≡ rs
    → IsNet ports ordered (record { configs = configs; seen = record { routers = now; links = links; sent = ds; injected = n; noted = ts }; begun = true; stopped = stopped })
same-goes ports ordered configs rs now links ds n ts begun stopped h is = net-goes ports ordered whole now ds n ts stopped h (ap shapes_of is) h.few h.small
    (λ going none. subst (λ (xs : List Router). HasRun (record { routers = xs; links = links; sent = ds; injected = n; noted = ts })) (sym is) (has-run ports ordered whole h going none))
  where
    whole : LabNet
    whole = record { configs = configs; seen = record { routers = rs; links = links; sent = ds; injected = n; noted = ts }; begun = begun; stopped = stopped }

pub tick-ends : (old new : LabNet) (i : ℕ) (res : Result (Unit {0}) LabFault) → i < length old.seen.routers → old.stopped ≡ None → IfSome (nth old.seen.routers i) (λ r. Taken old new (moved_in old.seen i None Second r None) res) → Ending (event.Tick i) old new res
tick-ends old new i res h running t =
    let there = nth-there old.seen.routers i h in
    taken-ends (event.Tick i) old new (moved_in old.seen i None Second there.0 None) res running refl (of-place (λ r. Taken old new (moved_in old.seen i None Second r None) res) (nth old.seen.routers i) there.0 there.1 t) (tick-done old.seen i there.0 there.1)

pub pull-off-ends : (old : LabNet) (i link : ℕ) (o : Option ℕ) → o ≡ None → option_map (λ circuit. circuit - 1) o ≡ place_in (nth old.seen.links link) i → Ending (event.Pull i link) old old (Err fault.NotOn)
pull-off-ends old i link o q e = Refused fault.NotOn refl refl (λ s. s) (λ net s. pull-off old.seen link i (sym e ∙ ap (option_map (λ circuit. circuit - 1)) q) net s.seen)

pub pull-ends : (old new : LabNet) (i link circuit : ℕ) (o : Option ℕ) (res : Result (Unit {0}) LabFault) → i < length old.seen.routers → old.stopped ≡ None → o ≡ Some circuit → option_map (λ circuit. circuit - 1) o ≡ place_in (nth old.seen.links link) i
    → IfSome (nth old.seen.routers i) (λ r. Taken old new (moved_in old.seen i (Some link) (Pull (circuit - 1)) r None) res) → Ending (event.Pull i link) old new res
pull-ends old new i link circuit o res h running q e t =
    let there = nth-there old.seen.routers i h in
    taken-ends (event.Pull i link) old new (moved_in old.seen i (Some link) (Pull (circuit - 1)) there.0 None) res running refl (of-place (λ r. Taken old new (moved_in old.seen i (Some link) (Pull (circuit - 1)) r None) res) (nth old.seen.routers i) there.0 there.1 t)
    (pull-done old.seen link i (circuit - 1) there.0 (sym e ∙ ap (option_map (λ circuit. circuit - 1)) q) there.1)

-- ---- deliveries

calm-delivery : (a : Seen) (o : Option SentDatagram) (i : ℕ) → IfErr (delivered_on a o i) (λ f. IsStop f → ⊥)
calm-delivery a None i = λ s. s
calm-delivery a (Some d) i = by (d.sender == i)
  where
    by : (same : Bool) → IfErr (if same then Err fault.NotOn else Ok d.link) (λ f. IsStop f → ⊥)
    by true = λ s. s
    by false = tt

pub deliver-off-ends : (old : LabNet) (n i : ℕ) (f : LabFault) → delivered_on old.seen (numbered old.seen.sent n) i ≡ Err f → Ending (event.Deliver n i) old old (Err f)
deliver-off-ends old n i f h = Refused f refl refl (subst (λ (r : Result ℕ LabFault). IfErr r (λ f. IsStop f → ⊥)) h (calm-delivery old.seen (numbered old.seen.sent n) i)) (λ net s. deliver-off old.seen n i f h net s.seen)

pub deliver-none-ends : (old : LabNet) (n i link : ℕ) (o : Option ℕ) → delivered_on old.seen (numbered old.seen.sent n) i ≡ Ok link → o ≡ None → option_map (λ circuit. circuit - 1) o ≡ place_in (nth old.seen.links link) i → Ending (event.Deliver n i) old old (Err fault.NotOn)
deliver-none-ends old n i link o h q e =
    let x = heard old.seen (numbered old.seen.sent n) i link h in
    Refused fault.NotOn refl refl (λ s. s) (λ net s. deliver-none old.seen n i link x.0 x.1 h (sym e ∙ ap (option_map (λ circuit. circuit - 1)) q) net s.seen)

pub deliver-stops : (old new : LabNet) (n i link circuit : ℕ) (o : Option ℕ) (res : Result (Unit {0}) LabFault) → delivered_on old.seen (numbered old.seen.sent n) i ≡ Ok link → o ≡ Some circuit → option_map (λ circuit. circuit - 1) o ≡ place_in (nth old.seen.links link) i
    → res ≡ Err fault.OutOfMemory → new ≡ record old { begun = true; stopped = Some fault.OutOfMemory } → Ending (event.Deliver n i) old new res
deliver-stops old new n i link circuit o res h q e bad is =
    let x = heard old.seen (numbered old.seen.sent n) i link h in
    Stopped fault.OutOfMemory bad (ap (λ (a : LabNet). a.stopped) is) (record { links = ap (λ (a : LabNet). a.seen.links) is; routers = ap (λ (a : LabNet). length a.seen.routers) is })
    (λ net s. (deliver-on old.seen n i link (circuit - 1) x.0 x.1 h (sym e ∙ ap (option_map (λ circuit. circuit - 1)) q) net s.seen, tt))

pub deliver-ends : (old new : LabNet) (n i link circuit : ℕ) (o : Option ℕ) (ev : NodeEvent) (range : Option HeardRange) (res : Result (Unit {0}) LabFault) → i < length old.seen.routers → old.stopped ≡ None → delivered_on old.seen (numbered old.seen.sent n) i ≡ Ok link → o ≡ Some circuit → option_map (λ circuit. circuit - 1) o ≡ place_in (nth old.seen.links link) i
    → IfSome (nth old.seen.routers i) (λ r. IfSome (nth old.seen.sent (n - 1)) (λ d. event_of r ev ≡ taking r (circuit - 1) d.octets))
    → IfSome (nth old.seen.routers i) (λ r. IfSome (nth old.seen.sent (n - 1)) (λ d. IsHeard i (circuit - 1) r d range))
    → IfSome (nth old.seen.routers i) (λ r. Taken old new (moved_in old.seen i (Some link) (event_of r ev) r range) res) → Ending (event.Deliver n i) old new res
deliver-ends old new n i link circuit o ev range res h running d q e says hears t =
    let there = nth-there old.seen.routers i h in
    taken-ends (event.Deliver n i) old new (moved_in old.seen i (Some link) (event_of there.0 ev) there.0 range) res running refl (of-place (λ r. Taken old new (moved_in old.seen i (Some link) (event_of r ev) r range) res) (nth old.seen.routers i) there.0 there.1 t)
    (hears-done old n i link circuit o ev range there.0 d q e (says, hears) there.1)

-- ---- injections

pub inject-off-ends : (old : LabNet) (i link : ℕ) (octets : List ℕ) (o : Option ℕ) → o ≡ None → option_map (λ circuit. circuit - 1) o ≡ place_in (nth old.seen.links link) i → Ending (event.Inject i link octets) old old (Err fault.NotOn)
inject-off-ends old i link octets o q e = Refused fault.NotOn refl refl (λ s. s) (λ net s. inject-off old.seen link i octets (sym e ∙ ap (option_map (λ circuit. circuit - 1)) q) net s.seen)

pub inject-ends : (old mid new : LabNet) (i link circuit : ℕ) (octets : List ℕ) (o : Option ℕ) (res : Result (Unit {0}) LabFault) → i < length old.seen.routers → old.stopped ≡ None → o ≡ Some circuit → option_map (λ circuit. circuit - 1) o ≡ place_in (nth old.seen.links link) i
    → mid ≡ record old { seen = record old.seen { injected = risen old.seen.injected }; begun = true }
    → IfSome (nth mid.seen.routers i) (λ r. Taken mid new (moved_in mid.seen i (Some link) (taking r (circuit - 1) octets) r None) res) → Ending (event.Inject i link octets) old new res
inject-ends old mid new i link circuit octets o res h running q e m t =
    ends-of (taken-ends-of res (of-place (λ r. Taken (risen-of) new (moved_in (risen-of).seen i (Some link) (taking r (circuit - 1) octets) r None) res) (nth old.seen.routers i) there.0 there.1 (subst (λ (m : LabNet). IfSome (nth m.seen.routers i) (λ r. Taken m new (moved_in m.seen i (Some link) (taking r (circuit - 1) octets) r None) res)) m t)))
  where
    there : (x : Router) × (nth old.seen.routers i ≡ Some x)
    there = nth-there old.seen.routers i h

    risen-of : LabNet
    risen-of = record old { seen = record old.seen { injected = risen old.seen.injected }; begun = true }

    seen : Seen
    seen = moved_in (risen-of).seen i (Some link) (taking there.0 (circuit - 1) octets) there.0 None

    -- the same from the network before
    taken-ends-of : (res : Result (Unit {0}) LabFault) → Taken risen-of new seen res → Taken old new seen res
    taken-ends-of (Ok u) t = record { done = t.done; stop = tt; cause = tt; size = record { links = t.size.links; routers = t.size.routers } }
    taken-ends-of (Err f) t = record { done = tt; stop = t.stop; cause = t.cause; size = record { links = t.size.links; routers = t.size.routers } }

    ends-of : Taken old new seen res → Ending (event.Inject i link octets) old new res
    ends-of t = taken-ends (event.Inject i link octets) old new seen res running refl t (inject-done old.seen link i (circuit - 1) octets there.0 (sym e ∙ ap (option_map (λ circuit. circuit - 1)) q) there.1)

-- ---- restarts

pub restart-off-ends : (old : LabNet) (i : ℕ) (r : Router) → nth old.seen.routers i ≡ Some r → 16777215 ≤ r.boot → Ending (event.Restart i) old old (Err (fault.Limit limit.Boots))
restart-off-ends old i r q h = Refused (fault.Limit limit.Boots) refl refl (λ s. s) (λ net s. restart-off old.seen i r q h net s.seen)

pub restart-stops : (old new : LabNet) (i : ℕ) (r : Router) (res : Result (Unit {0}) LabFault) → nth old.seen.routers i ≡ Some r → r.boot < 16777215 → res ≡ Err fault.OutOfMemory → new ≡ record old { begun = true; stopped = Some fault.OutOfMemory } → Ending (event.Restart i) old new res
restart-stops old new i r res q h bad is =
    Stopped fault.OutOfMemory bad (ap (λ (a : LabNet). a.stopped) is) (record { links = ap (λ (a : LabNet). a.seen.links) is; routers = ap (λ (a : LabNet). length a.seen.routers) is })
    (λ net s. ((restart-done old.seen i r q h net s.seen).0, tt))

pub restart-ends : (old new : LabNet) (i : ℕ) (r : Router) → old.stopped ≡ None → nth old.seen.routers i ≡ Some r → r.boot < 16777215 → new ≡ record old { seen = record old.seen { routers = with_nth old.seen.routers i (restarted r) }; begun = true } → Ending (event.Restart i) old new (Ok tt)
restart-ends old new i r running q h is = Done refl (ap (λ (a : LabNet). a.stopped) is ∙ running)
    (record { links = ap (λ (a : LabNet). a.seen.links) is; routers = ap (λ (a : LabNet). length a.seen.routers) is ∙ length-with old.seen.routers i (restarted r) })
    (ap (λ (a : LabNet). a.configs) is)
    (λ net s. let d = restart-done old.seen i r q h net s.seen in (d.0, record { seen = d.1 ∙ sym (ap (λ (a : LabNet). a.seen) is) }))

-- ---- changes

calm-change : (r : Router) (c : Change) → IfSome (unless_changes (Some r) c) (λ f. IsStop f → ⊥)
calm-change r (change.Metric circuit metric) = tt
calm-change r (change.Prefix prefix None) = tt
calm-change r (change.Prefix prefix (Some metric)) = by (not (is_some (find r.config.prefixes (prefix_number prefix))) && nat_le 4096 (length r.config.prefixes))
  where
    by : (b : Bool) → IfSome (if b then Some (fault.Limit limit.Prefixes) else None) (λ f. IsStop f → ⊥)
    by true = λ s. s
    by false = tt
calm-change r (change.Overload on) = tt

pub change-off-ends : (old : LabNet) (i : ℕ) (c : Change) (r : Router) (f : LabFault) → nth old.seen.routers i ≡ Some r → unless_changes (Some r) c ≡ Some f → Ending (event.Change i c) old old (Err f)
change-off-ends old i c r f q h = Refused f refl refl (subst (λ (o : Option LabFault). IfSome o (λ f. IsStop f → ⊥)) h (calm-change r c)) (λ net s. change-off old.seen i c r f q h net s.seen)

pub change-ends : (old mid new : LabNet) (i : ℕ) (c : Change) (config changed : Config) (r : Router) → old.stopped ≡ None → nth old.seen.routers i ≡ Some r → unless_changes (Some r) c ≡ None
    → nth old.configs i ≡ Some config → changed ≡ config_after c config
    → IfSome (nth old.seen.routers i) (λ r. Taken old mid (moved_in old.seen i None (core.change_of c) r None) (Ok tt)) → new ≡ record mid { configs = with_nth mid.configs i changed } → Ending (event.Change i c) old new (Ok tt)
change-ends old mid new i c config changed r running q h at is t put =
    let taken : Taken old mid (moved_in old.seen i None (core.change_of c) r None) (Ok tt) = of-place (λ r. Taken old mid (moved_in old.seen i None (core.change_of c) r None) (Ok tt)) (nth old.seen.routers i) r q t in
    let d = change-done old.seen i c r q h in
    Done refl (ap (λ (a : LabNet). a.stopped) put ∙ (ap (λ (a : LabNet). a.stopped) taken.done ∙ running))
    (record { links = ap (λ (a : LabNet). a.seen.links) put ∙ taken.size.links; routers = ap (λ (a : LabNet). length a.seen.routers) put ∙ taken.size.routers })
    (ap (λ (a : LabNet). a.configs) put
    ∙ (ap (λ (a : LabNet). with_nth a.configs i changed) taken.done
    ∙ (ap (with_nth old.configs i) is ∙ sym (ap (changed_at c i old.configs) at))))
    (λ net k. ((d net k.seen).0, record { seen = (d net k.seen).1 ∙ sym (ap (λ (a : LabNet). a.seen) put ∙ ap (λ (a : LabNet). a.seen) taken.done) }))

pub change-breaks : (old new : LabNet) (i : ℕ) (c : Change) (r : Router) (f : LabFault) → old.stopped ≡ None → nth old.seen.routers i ≡ Some r → unless_changes (Some r) c ≡ None
    → IfSome (nth old.seen.routers i) (λ r. Taken old new (moved_in old.seen i None (core.change_of c) r None) (Err f)) → Ending (event.Change i c) old new (Err f)
change-breaks old new i c r f running q h t =
    let taken : Taken old new (moved_in old.seen i None (core.change_of c) r None) (Err f) = of-place (λ r. Taken old new (moved_in old.seen i None (core.change_of c) r None) (Err f)) (nth old.seen.routers i) r q t in
    Stopped f refl taken.stop taken.size
    (λ net k. let d = change-done old.seen i c r q h net k.seen in (d.0, subst (λ (xs : List SentDatagram). StopCause xs new.seen.sent f) (sym (ap (λ (s : Seen). s.sent) d.1)) taken.cause))

pub change-stops : (old new : LabNet) (i : ℕ) (c : Change) (r : Router) (res : Result (Unit {0}) LabFault) → nth old.seen.routers i ≡ Some r → unless_changes (Some r) c ≡ None → res ≡ Err fault.OutOfMemory → new ≡ record old { begun = true; stopped = Some fault.OutOfMemory } → Ending (event.Change i c) old new res
change-stops old new i c r res q h bad is =
    Stopped fault.OutOfMemory bad (ap (λ (a : LabNet). a.stopped) is) (record { links = ap (λ (a : LabNet). a.seen.links) is; routers = ap (λ (a : LabNet). length a.seen.routers) is })
    (λ net s. ((change-done old.seen i c r q h net s.seen).0, tt))

-- a change leaves the circuits, and what is taken the configurations
at-count : (f : CircuitConfig → CircuitConfig) (place : ℕ) (circuits : List CircuitConfig) (o : Option CircuitConfig) → length (at_circuit f place circuits o) ≡ length circuits
at-count f place circuits None = refl
at-count f place circuits (Some c) = length-with circuits place (f c)

same-circuits : (c : Change) (config : Config) → length (config_after c config).circuits ≡ length config.circuits
same-circuits (change.Metric circuit metric) config = at-count (λ c. record c { metric = metric }) (circuit - 1) config.circuits (nth config.circuits (circuit - 1))
same-circuits (change.Prefix prefix metric) config = refl
same-circuits (change.Overload on) config = refl

pub record IsTakenBeside (old mid : LabNet) (i : ℕ) (changed : Config) : Type 0 where
  pub begun : mid.begun ≡ true
  pub there : i < length mid.configs
  pub circuits : IfSome (nth mid.configs i) (λ (c : Config). length changed.circuits ≡ length c.circuits)

pub taken-beside : (old mid : LabNet) (i : ℕ) (c : Change) (config changed : Config) (r : Router) → nth old.seen.routers i ≡ Some r → nth old.configs i ≡ Some config → changed ≡ config_after c config
    → IfSome (nth old.seen.routers i) (λ r. Taken old mid (moved_in old.seen i None (core.change_of c) r None) (Ok tt)) → IsTakenBeside old mid i changed
taken-beside old mid i c config changed r q at is t =
    let taken : Taken old mid (moved_in old.seen i None (core.change_of c) r None) (Ok tt) = of-place (λ r. Taken old mid (moved_in old.seen i None (core.change_of c) r None) (Ok tt)) (nth old.seen.routers i) r q t in
    let same : mid.configs ≡ old.configs = ap (λ (a : LabNet). a.configs) taken.done in
    record {
      begun = ap (λ (a : LabNet). a.begun) taken.done;
      there = subst (λ (cs : List Config). i < length cs) (sym same) (nth-less old.configs i config at);
      circuits = to-place (λ (x : Config). length changed.circuits ≡ length x.circuits) (nth mid.configs i) config (ap (λ (cs : List Config). nth cs i) same ∙ at) (ap (λ (x : Config). length x.circuits) is ∙ same-circuits c config);
    }

-- ---- what an answer is made of

pub ending-stops : (ev : LabEvent) (old new : LabNet) (res : Result (Unit {0}) LabFault) → Ending ev old new res → IfErr res (λ f. IsStop f → new.stopped ≡ Some f)
ending-stops ev old new res (Done ok still size configs f) = subst (λ (r : Result (Unit {0}) LabFault). IfErr r (λ f. IsStop f → new.stopped ≡ Some f)) (sym ok) tt
ending-stops ev old new res (Refused fault bad same calm f) = subst (λ (r : Result (Unit {0}) LabFault). IfErr r (λ f. IsStop f → new.stopped ≡ Some f)) (sym bad) (λ s. absurd (calm s))
ending-stops ev old new res (Stopped fault bad at size f) = subst (λ (r : Result (Unit {0}) LabFault). IfErr r (λ f. IsStop f → new.stopped ≡ Some f)) (sym bad) (λ s. at)

pub ending-goes : (ev : LabEvent) (old new : LabNet) (res : Result (Unit {0}) LabFault) → Ending ev old new res → OnOk res (new.stopped ≡ None)
ending-goes ev old new res (Done ok still size configs f) = subst (λ (r : Result (Unit {0}) LabFault). OnOk r (new.stopped ≡ None)) (sym ok) still
ending-goes ev old new res (Refused fault bad same calm f) = subst (λ (r : Result (Unit {0}) LabFault). OnOk r (new.stopped ≡ None)) (sym bad) tt
ending-goes ev old new res (Stopped fault bad at size f) = subst (λ (r : Result (Unit {0}) LabFault). OnOk r (new.stopped ≡ None)) (sym bad) tt

-- where it went well the network wasn't stopped
pub ok-claimed : (new : LabNet) (res : Result (Unit {0}) LabFault) → OnOk res (new.stopped ≡ None) → (new.stopped ≡ None → IsClaimed new.seen) → OnOk res (IsClaimed new.seen)
ok-claimed new (Ok u) going f = f going
ok-claimed new (Err e) going f = tt

pub delivered-there : (a : Seen) (n i link : ℕ) → delivered_on a (numbered a.sent n) i ≡ Ok link → n - 1 < length a.sent
delivered-there a n i link h = let x = heard a (numbered a.sent n) i link h in nth-less a.sent (n - 1) x.0 (numbered-nth a.sent n x.0 x.1)

pub delivered-number : (a : Seen) (n i link : ℕ) → delivered_on a (numbered a.sent n) i ≡ Ok link → 1 ≤ n
delivered-number a zero i link h = absurd (cc)
delivered-number a (suc n) i link h = omega arith

-- a router by its place
pub here : (rs : List Router) (old : LabNet) (i : ℕ) (r : Router) → rs ≡ old.seen.routers → i < length old.seen.routers → r ≡ get_or rs i r → nth old.seen.routers i ≡ Some r
here rs old i r same h e = ap (λ (xs : List Router). nth xs i) (sym same) ∙ nth-get rs i r (subst (λ (xs : List Router). i < length xs) (sym same) h) e

pub restart-is : (configs : List Config) (rs now : List Router) (links : List (List End)) (ds : List SentDatagram) (n : ℕ) (ts : Notes) (begun : Bool) (stopped : Option LabFault) (old : LabNet) (i : ℕ) (r : Router)
    → (record { configs = configs; seen = record { routers = rs; links = links; sent = ds; injected = n; noted = ts }; begun = begun; stopped = stopped }) ≡ old → now ≡ with_nth rs i (restarted r)
    → (record { configs = configs; seen = record { routers = now; links = links; sent = ds; injected = n; noted = ts }; begun = true; stopped = stopped }) ≡ record old { seen = record old.seen { routers = with_nth old.seen.routers i (restarted r) }; begun = true }
unfolding view
restart-is configs rs now links ds n ts begun stopped old i r is e =
    ap (λ (xs : List Router). view configs xs links ds n ts true stopped) e ∙ ap (λ (l : LabNet). record l { seen = record l.seen { routers = with_nth l.seen.routers i (restarted r) }; begun = true }) is

pub stop-is : (configs : List Config) (rs now : List Router) (links : List (List End)) (ds : List SentDatagram) (n : ℕ) (ts : Notes) (begun : Bool) (stopped : Option LabFault) (old new : LabNet)
    → (record { configs = configs; seen = record { routers = rs; links = links; sent = ds; injected = n; noted = ts }; begun = begun; stopped = stopped }) ≡ old → now ≡ rs
    → new ≡ record { configs = configs; seen = record { routers = now; links = links; sent = ds; injected = n; noted = ts }; begun = true; stopped = Some fault.OutOfMemory }
    → new ≡ record old { begun = true; stopped = Some fault.OutOfMemory }
unfolding view
stop-is configs rs now links ds n ts begun stopped old new is e q =
    q ∙ (ap (λ (xs : List Router). view configs xs links ds n ts true (Some fault.OutOfMemory)) e ∙ ap (λ (l : LabNet). record l { begun = true; stopped = Some fault.OutOfMemory }) is)

pub inject-is : (configs : List Config) (rs : List Router) (links : List (List End)) (ds : List SentDatagram) (n m : ℕ) (ts : Notes) (begun : Bool) (stopped : Option LabFault) (old : LabNet)
    → (record { configs = configs; seen = record { routers = rs; links = links; sent = ds; injected = n; noted = ts }; begun = begun; stopped = stopped }) ≡ old → m ≡ risen n
    → (record { configs = configs; seen = record { routers = rs; links = links; sent = ds; injected = m; noted = ts }; begun = true; stopped = stopped }) ≡ record old { seen = record old.seen { injected = risen old.seen.injected }; begun = true }
unfolding view
inject-is configs rs links ds n m ts begun stopped old is e =
    ap (λ (k : ℕ). view configs rs links ds k ts true stopped) e ∙ ap (λ (l : LabNet). record l { seen = record l.seen { injected = risen l.seen.injected }; begun = true }) is

-- ---- a circuit of a link

on-there : (counts : List ℕ) (ends : List End) (i place : ℕ) → AreEndsThere counts ends → place_on ends i ≡ Some place → place < unwrap_or (nth counts i) 0
on-there counts [] i place h e = absurd (cc)
on-there counts (x ∷ ends) i place h e = same-or (λ t. (if t then Some x.place else place_on ends i) ≡ Some place → place < unwrap_or (nth counts i) 0) x.router i
    (λ s q. subst (λ (p : ℕ). p < unwrap_or (nth counts i) 0) (some-same x.place place q) (subst (λ (k : ℕ). x.place < unwrap_or (nth counts k) 0) s h.0))
    (λ _ q. on-there counts ends i place h.1 q) e

pub circuit-less : (ports : List (List ℕ)) (ordered : List (List End)) (old : LabNet) (link i place : ℕ) (r : Router) → IsNet ports ordered old → Some place ≡ place_in (nth old.seen.links link) i → nth old.seen.routers i ≡ Some r → place < length r.circuits
circuit-less ports ordered old link i place r h e q = by (nth old.seen.links link) refl e
  where
    count : unwrap_or (nth (map length ports) i) 0 ≡ length r.circuits
    count = ap (λ (xs : List ℕ). unwrap_or (nth xs i) 0) (sym h.routers) ∙ ap (λ (o : Option ℕ). unwrap_or o 0) (nth-map (λ (r : Router). length r.circuits) old.seen.routers i ∙ ap (option_map (λ (r : Router). length r.circuits)) q)

    by : (o : Option (List End)) → nth old.seen.links link ≡ o → Some place ≡ place_in o i → place < length r.circuits
    by None k e = absurd (cc)
    by (Some ends) k e = subst (λ (n : ℕ). place < n) count (on-there (map length ports) ends i place (all-at (AreEndsThere (map length ports)) old.seen.links link ends h.ends k) (sym e))

pub ending-configs : (ev : LabEvent) (old new : LabNet) (res : Result (Unit {0}) LabFault) → Ending ev old new res → OnOk res (new.configs ≡ configs_after ev old.configs)
ending-configs ev old new res (Done ok still size configs f) = subst (λ (r : Result (Unit {0}) LabFault). OnOk r (new.configs ≡ configs_after ev old.configs)) (sym ok) configs
ending-configs ev old new res (Refused fault bad same calm f) = subst (λ (r : Result (Unit {0}) LabFault). OnOk r (new.configs ≡ configs_after ev old.configs)) (sym bad) tt
ending-configs ev old new res (Stopped fault bad at size f) = subst (λ (r : Result (Unit {0}) LabFault). OnOk r (new.configs ≡ configs_after ev old.configs)) (sym bad) tt
