-- What is kept of a network in its run, after each event of a list.
use Rattle.std.proofs.Common.{◌≡◌, ℕ, ◌<◌, List, [], ◌∷◌, ◌++◌, Option, Some, None, refl, sym, ◌∙◌}
use Rattle.std.specs.List.{AllByRecursion}
use Rattle.model_router.specs.Places.{nth}
use Rattle.model_router.specs.Books.{risen}
use Rattle.model_router.specs.Routers.{Router}
use Rattle.router_core.specs.Givens.{given}
use Rattle.model_network.specs.Networks.{Datagram, octets_of, Network, place_at}
use Rattle.model_network.specs.Runs.{Happening, Tick, PullOn, Deliver, Restart, SetMetric, SetOverload, SetPrefix, Inject, arrive_at, inject_at, apply, run}
use Rattle.model_network.specs.LineEvents.{IsOfLine}
use Rattle.model_network.specs.Speakers.{AreOctets}
use Rattle.model_network.proofs.ChangeLemmas.{Change, Still, Moved, Restarted, apply-change}
use Rattle.network_lab.specs.LabNets.{seen_of}
use Rattle.network_lab.specs.Claims.{IsClaimed}
use Rattle.network_lab.specs.Reached.{IsReachedNet, IsFitting, AreFitting}
use Rattle.network_lab.proofs.ReachedLemmas.{risen-some, apply-reached}
use Rattle.network_lab.proofs.AgreeLemmas.{claimed-in}

-- ---- what was sent stays, and what was injected

abbrev SmallOf : List Datagram → Type 0
SmallOf ds = AllByRecursion (λ (d : Datagram). AllByRecursion (λ octet. octet < 256) (octets_of d)) ds

front : (xs ys : List Datagram) → SmallOf (xs ++ ys) → SmallOf xs
front [] ys h = tt
front (x ∷ xs) ys h = (h.0, front xs ys h.1)

change-before : (net new : Network) → Change given net new → AreOctets new → AreOctets net
change-before net new (Still _) h = h
change-before net new (Moved i link event r ts m brings) h = front net.datagrams _ h
change-before net new (Restarted i r q) h = h

change-none : (net new : Network) → Change given net new → new.injected ≡ 0 → net.injected ≡ 0
change-none net new (Still _) h = h
change-none net new (Moved i link event r ts m brings) h = h
change-none net new (Restarted i r q) h = h

arrived-before : (net : Network) (i link place : ℕ) (octets : List ℕ) (o : Option Router) → AreOctets (arrive_at given net i link place octets o) → AreOctets net
arrived-before net i link place octets None h = h
arrived-before net i link place octets (Some r) h = front net.datagrams _ h

inject-before : (net : Network) (i link : ℕ) (octets : List ℕ) (o : Option ℕ) → AreOctets (inject_at given net i link octets o) → AreOctets net
inject-before net i link octets None h = h
inject-before net i link octets (Some place) h = arrived-before (record net { injected = risen net.injected }) i link place octets (nth net.routers i) h

arrived-injected : (net : Network) (i link place : ℕ) (octets : List ℕ) (o : Option Router) → (arrive_at given net i link place octets o).injected ≡ net.injected
arrived-injected net i link place octets None = refl
arrived-injected net i link place octets (Some r) = refl

inject-none : (net : Network) (i link : ℕ) (octets : List ℕ) (o : Option ℕ) → (inject_at given net i link octets o).injected ≡ 0 → net.injected ≡ 0
inject-none net i link octets None h = h
inject-none net i link octets (Some place) h =
    absurd (risen-some net.injected (sym (arrived-injected (record net { injected = risen net.injected }) i link place octets (nth net.routers i)) ∙ h))

apply-before : (net : Network) (h : Happening) → AreOctets (apply given net h) → AreOctets net
unfolding apply
apply-before net (Inject i link octets) k = inject-before net i link octets (place_at net link i) k
apply-before net (Tick i) k = change-before net _ (apply-change given net (Tick i) refl) k
apply-before net (PullOn i link) k = change-before net _ (apply-change given net (PullOn i link) refl) k
apply-before net (Deliver n i) k = change-before net _ (apply-change given net (Deliver n i) refl) k
apply-before net (Restart i) k = change-before net _ (apply-change given net (Restart i) refl) k
apply-before net (SetMetric i place metric) k = change-before net _ (apply-change given net (SetMetric i place metric) refl) k
apply-before net (SetOverload i on) k = change-before net _ (apply-change given net (SetOverload i on) refl) k
apply-before net (SetPrefix i prefix metric) k = change-before net _ (apply-change given net (SetPrefix i prefix metric) refl) k

apply-none : (net : Network) (h : Happening) → (apply given net h).injected ≡ 0 → net.injected ≡ 0
unfolding apply
apply-none net (Inject i link octets) k = inject-none net i link octets (place_at net link i) k
apply-none net (Tick i) k = change-none net _ (apply-change given net (Tick i) refl) k
apply-none net (PullOn i link) k = change-none net _ (apply-change given net (PullOn i link) refl) k
apply-none net (Deliver n i) k = change-none net _ (apply-change given net (Deliver n i) refl) k
apply-none net (Restart i) k = change-none net _ (apply-change given net (Restart i) refl) k
apply-none net (SetMetric i place metric) k = change-none net _ (apply-change given net (SetMetric i place metric) refl) k
apply-none net (SetOverload i on) k = change-none net _ (apply-change given net (SetOverload i on) refl) k
apply-none net (SetPrefix i prefix metric) k = change-none net _ (apply-change given net (SetPrefix i prefix metric) refl) k

run-before : (net : Network) (events : List Happening) → AreOctets (run given net events) → AreOctets net
run-before net [] h = h
run-before net (e ∷ events) h = apply-before net e (run-before (apply given net e) events h)

-- ---- a run

along : (net : Network) (first rest : List Happening) → (net.injected ≡ 0 → IsReachedNet net) → AreFitting net (first ++ rest) → AreOctets (run given net (first ++ rest))
    → (run given net first).injected ≡ 0 → IsReachedNet (run given net first)
along net [] rest r fits small none = r none
along net (e ∷ first) rest r fits small none =
    along (apply given net e) first rest
    (λ k. apply-reached net e (r (apply-none net e k)) fits.0 (run-before (apply given net e) (first ++ rest) small) k) fits.1 small none

pub claimed-along : (net : Network) (first rest : List Happening) → IsReachedNet net → AreFitting net (first ++ rest) → AreOctets (run given net (first ++ rest)) → IsClaimed (seen_of (run given net first))
claimed-along net first rest r fits small =
    claimed-in (seen_of (run given net first)) (λ none. record { net = run given net first; seen = refl; reached = along net first rest (λ _. r) fits small none })

-- ---- events that fit

calm : (net : Network) (h : Happening) → IsOfLine h → IsFitting net h
calm net (Tick i) o = tt
calm net (PullOn i link) o = tt
calm net (Deliver n i) o = tt
calm net (Restart i) o = absurd o
calm net (SetMetric i place metric) o = absurd o
calm net (SetOverload i on) o = absurd o
calm net (SetPrefix i prefix metric) o = absurd o
calm net (Inject i link octets) o = absurd o

pub calm-fits : (net : Network) (events : List Happening) → AllByRecursion IsOfLine events → AreFitting net events
calm-fits net [] h = tt
calm-fits net (e ∷ events) h = (calm net e h.0, calm-fits (apply given net e) events h.1)

pub fits-append : (net : Network) (xs ys : List Happening) → AreFitting net xs → AreFitting (run given net xs) ys → AreFitting net (xs ++ ys)
fits-append net [] ys h k = k
fits-append net (x ∷ xs) ys h k = (h.0, fits-append (apply given net x) xs ys h.1 k)
