-- What is kept of a network in its run, by each event.
use Rattle.std.proofs.Common.{◌≡◌, ℕ, zero, suc, ◌+◌, ◌-◌, ◌^◌, ◌<◌, ◌==◌, nat_lt, Bool, true, false, List, [], ◌∷◌, map, Option, Some, None, IfSome, if◌then◌else◌, refl, sym, ap, ◌∙◌, subst, arith}
use Rattle.std.specs.List.{AllByRecursion}
use Rattle.model_router.specs.Places.{nth}
use Rattle.model_router.specs.Books.{risen}
use Rattle.model_router.specs.Routers.{Circuit, Router}
use Rattle.model_router.specs.Events.{Event, Refused, Second, Take, Pull, Metric, Overload, Prefix}
use Rattle.model_router.specs.declared.drop_name.DropName.TheVariants as drop
use Rattle.model_router.specs.Steps.{step}
use Rattle.model_datagram.specs.Reading.{read}
use Rattle.model_datagram.proofs.GoodLemmas.{Small, good-read}
use Rattle.model_datagram.proofs.KeptLemmas.{kept-tells}
use Rattle.router_core.specs.Events.{FitsPrefix}
use Rattle.router_core.specs.Givens.{given, leaks_of, is_attached}
use Rattle.router_core.specs.Reached.{IsReached}
use Rattle.router_core.proofs.NameLemmas.{names-read}
use Rattle.router_core.proofs.ReachedLemmas.{step-holds, restart-reached}
use Rattle.model_network.specs.Networks.{Datagram, octets_of, Network, place_at, numbered, restarted}
use Rattle.model_network.specs.Runs.{read_on, taking, Happening, Tick, PullOn, Deliver, Restart, SetMetric, SetOverload, SetPrefix, Inject, is_injection, moved_if, Arrival, NotSent, NotOn, Arrives, on_place, arrival, arrive, arrive_at, deliver_at, pull_at, restart_at, inject_at, apply}
use Rattle.model_network.specs.Speakers.{AreSpeaking, AreOctets}
use Rattle.model_network.specs.Kept.{AreFollowing}
use Rattle.model_network.proofs.ChangeLemmas.{each-router}
use Rattle.model_network.proofs.KeptLemmas.{apply-kept}
use Rattle.model_network.proofs.OriginLemmas.{apply-origins}
use Rattle.model_network.proofs.SweepLemmas.{apply-true, apply-agreed}
use Rattle.network_lab.specs.LabNets.{Seen, sent_of, seen_of}
use Rattle.network_lab.specs.Reached.{AreInRun, IsReachedNet, HasRun, AreSmall, IsFitting, Happens}
use Rattle.network_lab.proofs.LinkLemmas.{all-at}
use Rattle.network_lab.proofs.StateLemmas.{at-if}

-- ---- a router

taken-reached : (r : Router) (place : ℕ) (octets : List ℕ) → IsReached r → Small octets → IsReached (step given r (taking r place octets)).router
taken-reached r place octets h small = of (nth r.circuits place)
  where
    of : (o : Option Circuit) → IsReached (step given r (Take place (read_on r o octets))).router
    of None = step-holds r (Take place (Refused drop.WrongKind)) h tt tt tt tt
    of (Some c) = step-holds r (Take place (read r.config c octets)) h (good-read r.config c octets small) (kept-tells r.config c octets small) (names-read r.config c octets small) tt

-- ---- the routers of a network

moved-run : (net : Network) (i : ℕ) (link : Option ℕ) (ev : Event) (o : Option Router) → nth net.routers i ≡ o → AreInRun net.routers → ((r : Router) → o ≡ Some r → IsReached r → IsReached (step given r ev).router) → AreInRun (moved_if given net i link ev o).routers
moved-run net i link ev None q all new = all
moved-run net i link ev (Some r) q all new = each-router IsReached net.routers i r (step given r ev).router q (new r refl (all i r q)) all

pull-run : (net : Network) (i link : ℕ) (o : Option ℕ) → AreInRun net.routers → AreInRun (pull_at given net i link o).routers
pull-run net i link None all = all
pull-run net i link (Some place) all = moved-run net i (Some link) (Pull place) (nth net.routers i) refl all (λ r e h. step-holds r (Pull place) h tt tt tt tt)

restart-run : (net : Network) (i : ℕ) (o : Option Router) → nth net.routers i ≡ o → AreInRun net.routers → IfSome o (λ r. r.boot < 16777215) → AreInRun (restart_at net i o).routers
restart-run net i None q all fits = all
restart-run net i (Some r) q all fits = each-router IsReached net.routers i r (restarted r) q (restart-reached r (r.boot + 1) (all i r q) (omega (arith, fits))) all

delivered-run : (net : Network) (i : ℕ) (d : Datagram) (place : ℕ) (o : Option Router) → nth net.routers i ≡ o → AreInRun net.routers → Small (octets_of d) → AreInRun (deliver_at given net i d place o).routers
delivered-run net i d place None q all small = all
delivered-run net i d place (Some r) q all small = each-router IsReached net.routers i r (step given r (taking r place (octets_of d))).router q (taken-reached r place (octets_of d) (all i r q) small) all

arrive-run : (net : Network) (i : ℕ) (a : Arrival) → AreInRun net.routers → ((d : Datagram) (place : ℕ) → a ≡ Arrives d place → Small (octets_of d)) → AreInRun (arrive given net i a).routers
arrive-run net i NotSent all small = all
arrive-run net i NotOn all small = all
arrive-run net i (Arrives d place) all small = delivered-run net i d place (nth net.routers i) refl all (small d place refl)

-- what arrives was sent
same-arrival : (x d : Datagram) (p q : ℕ) → Arrives x p ≡ Arrives d q → x ≡ d
same-arrival x d p q e = cc

pub arrival-same : (net : Network) (x d : Datagram) (i place : ℕ) → arrival net (Some x) i ≡ Arrives d place → x ≡ d
arrival-same net x d i place e = by (x.sender == i) (place_at net x.link i) e
  where
    by : (same : Bool) (p : Option ℕ) → (if same then NotOn else on_place x p) ≡ Arrives d place → x ≡ d
    by true p e = absurd (cc)
    by false None e = absurd (cc)
    by false (Some q) e = same-arrival x d q place e

arrives-small : (net : Network) (o : Option Datagram) (i : ℕ) → ((d : Datagram) → o ≡ Some d → Small (octets_of d)) → (d : Datagram) (place : ℕ) → arrival net o i ≡ Arrives d place → Small (octets_of d)
arrives-small net None i small d place e = absurd (cc)
arrives-small net (Some x) i small d place e = subst (λ (y : Datagram). Small (octets_of y)) (arrival-same net x d i place e) (small x refl)

numbered-small : (ds : List Datagram) (n : ℕ) (d : Datagram) → AllByRecursion (λ (d : Datagram). AllByRecursion (λ octet. octet < 256) (octets_of d)) ds → numbered ds n ≡ Some d → Small (octets_of d)
numbered-small ds zero d all e = absurd (cc)
numbered-small ds (suc n) d all e = all-at (λ (d : Datagram). AllByRecursion (λ octet. octet < 256) (octets_of d)) ds n d all e

routers-after : (net : Network) (h : Happening) → AreInRun net.routers → AreOctets net → IsFitting net h → is_injection h ≡ false → AreInRun (apply given net h).routers
unfolding apply
routers-after net (Tick i) all small fits q = moved-run net i None Second (nth net.routers i) refl all (λ r e h. step-holds r Second h tt tt tt tt)
routers-after net (PullOn i link) all small fits q = pull-run net i link (place_at net link i) all
routers-after net (Deliver n i) all small fits q = arrive-run net i (arrival net (numbered net.datagrams n) i) all (arrives-small net (numbered net.datagrams n) i (λ d e. numbered-small net.datagrams n d small e))
routers-after net (Restart i) all small fits q = restart-run net i (nth net.routers i) refl all fits
routers-after net (SetMetric i place metric) all small fits q = moved-run net i None (Metric place metric) (nth net.routers i) refl all (λ r e h. step-holds r (Metric place metric) h tt tt tt tt)
routers-after net (SetOverload i on) all small fits q = moved-run net i None (Overload on) (nth net.routers i) refl all (λ r e h. step-holds r (Overload on) h tt tt tt tt)
routers-after net (SetPrefix i prefix metric) all small fits q = moved-run net i None (Prefix prefix metric) (nth net.routers i) refl all
    (λ r e h. step-holds r (Prefix prefix metric) h tt tt tt (at-if (λ (r : Router). FitsPrefix r prefix metric) (nth net.routers i) r e fits))
routers-after net (Inject i link octets) all small fits q = absurd (cc)

-- ---- the network

speak : (net : Network) → AreInRun net.routers → AreSpeaking net
speak net all i r e = (all i r e).speaking

follow : (net : Network) → AreInRun net.routers → AreFollowing net
follow net all i r e = (all i r e).follows

by-event : (net : Network) (h : Happening) → is_injection h ≡ false → IsReachedNet net → IsFitting net h → AreOctets (apply given net h) → IsReachedNet (apply given net h)
by-event net h q r fits octets =
    let all = routers-after net h r.routers r.kept.octets fits q in
    record {
      routers = all;
      kept = apply-kept leaks_of is_attached net h r.kept octets (speak (apply given net h) all) (follow (apply given net h) all);
      origins = apply-origins leaks_of is_attached net h q r.kept.octets r.kept.speaking (speak (apply given net h) all) r.origins;
      tells = apply-true leaks_of is_attached net h q r.kept.speaking r.tells;
      agreed = apply-agreed leaks_of is_attached net h q r.origins r.tells r.agreed;
    }

pub risen-some : (n : ℕ) → risen n ≡ 0 → ⊥
risen-some zero e = absurd (cc)
risen-some (suc n) e = by n (nat_lt (suc n) (2 ^ 64 - 1)) e
  where
    by : (n : ℕ) (t : Bool) → (if t then suc n + 1 else suc n) ≡ 0 → ⊥
    by n true q = omega (arith, q)
    by n false q = omega (arith, q)

arrived-injected : (net : Network) (i link place : ℕ) (octets : List ℕ) (o : Option Router) → (arrive_at given net i link place octets o).injected ≡ net.injected
arrived-injected net i link place octets None = refl
arrived-injected net i link place octets (Some r) = refl

injected-run : (net : Network) (i link : ℕ) (octets : List ℕ) (o : Option ℕ) → IsReachedNet net → (inject_at given net i link octets o).injected ≡ 0 → IsReachedNet (inject_at given net i link octets o)
injected-run net i link octets None r none = r
injected-run net i link octets (Some place) r none =
    absurd (risen-some net.injected (sym (arrived-injected (record net { injected = risen net.injected }) i link place octets (nth net.routers i)) ∙ none))

pub apply-reached : (net : Network) (h : Happening) → IsReachedNet net → IsFitting net h → AreOctets (apply given net h) → (apply given net h).injected ≡ 0 → IsReachedNet (apply given net h)
unfolding apply
apply-reached net (Tick i) r fits octets none = by-event net (Tick i) refl r fits octets
apply-reached net (PullOn i link) r fits octets none = by-event net (PullOn i link) refl r fits octets
apply-reached net (Deliver n i) r fits octets none = by-event net (Deliver n i) refl r fits octets
apply-reached net (Restart i) r fits octets none = by-event net (Restart i) refl r fits octets
apply-reached net (SetMetric i place metric) r fits octets none = by-event net (SetMetric i place metric) refl r fits octets
apply-reached net (SetOverload i on) r fits octets none = by-event net (SetOverload i on) refl r fits octets
apply-reached net (SetPrefix i prefix metric) r fits octets none = by-event net (SetPrefix i prefix metric) refl r fits octets
apply-reached net (Inject i link octets) r fits small none = injected-run net i link octets (place_at net link i) r none

-- ---- what is seen of it

small-sent : (ds : List Datagram) → AreSmall (map sent_of ds) → AllByRecursion (λ (d : Datagram). AllByRecursion (λ octet. octet < 256) (octets_of d)) ds
small-sent [] h = tt
small-sent (d ∷ ds) h = (h.0, small-sent ds h.1)

pub small-octets : (net : Network) (s : Seen) → seen_of net ≡ s → AreSmall s.sent → AreOctets net
small-octets net s e h = small-sent net.datagrams (subst (λ (s : Seen). AreSmall s.sent) (sym e) h)

-- an event makes a network in its run of one
pub run-goes : (new : Seen) (net : Network) → IsReachedNet net → Happens net new → AreSmall new.sent → new.injected ≡ 0 → HasRun new
run-goes new net r h small none = record {
  net = apply given net h.event;
  seen = h.seen;
  reached = apply-reached net h.event r h.fits (small-octets (apply given net h.event) new h.seen small) (ap (λ (s : Seen). s.injected) h.seen ∙ none);
}
