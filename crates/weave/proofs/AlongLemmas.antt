-- The claims along a schedule, with one event more.
use Rattle.std.proofs.Common.{◌≡◌, ℕ, ◌-◌, ◌⊎◌, inl, inr, List, [], ◌∷◌, ◌++◌, Option, Some, None, refl, sym, ap, ◌∙◌, subst}
use Rattle.std.proofs.lemmas.List.{append-nil}
use Rattle.model_router.specs.Places.{nth}
use Rattle.model_router.specs.Routers.{Router}
use Rattle.model_router.specs.Events as model
use Rattle.model_router.specs.Events.{Event}
use Rattle.router_core.specs.Givens.{given}
use Rattle.model_network.specs.Networks.{Datagram, Network, place_at, numbered}
use Rattle.model_network.specs.Runs.{Happening, moved_if, pull_at, restart_at, Arrival, NotSent, NotOn, Arrives, arrive, arrival, deliver_at, apply, run}
use Rattle.model_network.proofs.LineLemmas.{run-append}
use Rattle.network_lab.specs.LabNets.{LabNet, StandsFor, seen_of}
use Rattle.network_lab.specs.Claims.{IsClaimed}
use Rattle.weave_model.specs.Entries.{Deed, Second, Take, Pull, Metric, Overload, Prefix}
use Rattle.weave_model.specs.Weavings.{Move, Does, Restarts, IsDeed, IsMove}
use Rattle.weave.specs.Woven.{AreClaimedAlong}

-- ---- a router's move injects nothing

moved-injected : (net : Network) (i : ℕ) (link : Option ℕ) (e : Event) (r : Option Router) → (moved_if given net i link e r).injected ≡ net.injected
moved-injected net i link e None = refl
moved-injected net i link e (Some r) = refl

pull-injected : (net : Network) (i link : ℕ) (o : Option ℕ) → (pull_at given net i link o).injected ≡ net.injected
pull-injected net i link None = refl
pull-injected net i link (Some place) = moved-injected net i (Some link) (model.Pull place) (nth net.routers i)

restart-injected : (net : Network) (i : ℕ) (r : Option Router) → (restart_at net i r).injected ≡ net.injected
restart-injected net i None = refl
restart-injected net i (Some r) = refl

deliver-injected : (net : Network) (i : ℕ) (d : Datagram) (place : ℕ) (r : Option Router) → (deliver_at given net i d place r).injected ≡ net.injected
deliver-injected net i d place None = refl
deliver-injected net i d place (Some r) = refl

arrive-injected : (net : Network) (i : ℕ) (a : Arrival) → (arrive given net i a).injected ≡ net.injected
arrive-injected net i NotSent = refl
arrive-injected net i NotOn = refl
arrive-injected net i (Arrives d place) = deliver-injected net i d place (nth net.routers i)

abbrev InjectsNothing : Network → Happening → Type 0
InjectsNothing net h = (apply given net h).injected ≡ net.injected

deed-injects : (net : Network) (i : ℕ) (deed : Deed) (h : Happening) → IsDeed net i deed h → InjectsNothing net h
unfolding apply
deed-injects net i Second h is = subst (InjectsNothing net) (sym is) (moved-injected net i None model.Second (nth net.routers i))
deed-injects net i (Take circuit octets) h is = subst (InjectsNothing net) (sym is.event) (arrive-injected net i (arrival net (numbered net.datagrams is.number) i))
deed-injects net i (Pull circuit) h is = subst (InjectsNothing net) (sym is.event) (pull-injected net i is.link (place_at net is.link i))
deed-injects net i (Metric circuit metric) h is = subst (InjectsNothing net) (sym is) (moved-injected net i None (model.Metric (circuit - 1) metric) (nth net.routers i))
deed-injects net i (Overload on) h is = subst (InjectsNothing net) (sym is) (moved-injected net i None (model.Overload on) (nth net.routers i))
deed-injects net i (Prefix prefix metric) h is = subst (InjectsNothing net) (sym is) (moved-injected net i None (model.Prefix prefix metric) (nth net.routers i))

move-injects : (net : Network) (i : ℕ) (move : Move) (h : Happening) → IsMove net i move h → InjectsNothing net h
unfolding apply
move-injects net i (Does e) h is = deed-injects net i e.deed h is
move-injects net i Restarts h is = subst (InjectsNothing net) (sym is) (restart-injected net i (nth net.routers i))

-- ---- where a schedule leads with one event more

pub one-led : (origin here mid : Network) (old new : List Happening) (h : Happening) → new ≡ old ++ h ∷ [] → run given origin old ≡ here → mid ≡ apply given here h → run given origin new ≡ mid
one-led origin here mid old new h more led next =
    ap (run given origin) more ∙ (run-append given origin old (h ∷ []) ∙ (ap (λ (m : Network). apply given m h) led ∙ sym next))

pub one-injected : (origin here mid : Network) (old new : List Happening) (i : ℕ) (move : Move) (h : Happening) → run given origin old ≡ here → run given origin new ≡ mid → mid ≡ apply given here h → IsMove here i move h → AreClaimedAlong origin old
    → (run given origin new).injected ≡ origin.injected
one-injected origin here mid old new i move h led more next is along =
    ap (λ (m : Network). m.injected) (more ∙ next) ∙ (move-injects here i move h is
    ∙ (ap (λ (m : Network). m.injected) (sym led) ∙ (along old [] (sym (append-nil old))).1))

pub claimed-at : (net : Network) (a : LabNet) → {mid : Network} → net ≡ mid → StandsFor mid a → IsClaimed a.seen → IsClaimed (seen_of net)
claimed-at net a led stands claims = subst IsClaimed (sym (ap seen_of led ∙ stands.seen)) claims

-- ---- the claims along it

-- the first part of a list with one item more is that list, or a part of the list before
record IsPart {A : Type 0} (first rest old : List A) : Type 0 where
  more : List A
  is : old ≡ first ++ more

abbrev head_or : {A : Type 0} → A → List A → A
head_or d [] = d
head_or d (x ∷ xs) = x

abbrev tail_of : {A : Type 0} → List A → List A
tail_of [] = []
tail_of (x ∷ xs) = xs

nothing-before : {A : Type 0} (xs ys : List A) → [] ≡ xs ++ ys → xs ≡ []
nothing-before [] ys e = refl
nothing-before (x ∷ xs) ys e = absurd (cc)

first-part : {A : Type 0} (old : List A) (h : A) (first rest : List A) → old ++ h ∷ [] ≡ first ++ rest → (first ≡ old ++ h ∷ []) ⊎ IsPart first rest old
first-part old h [] rest e = inr (record { more = old; is = refl })
first-part [] h (x ∷ first) rest e =
    let none = nothing-before first rest (ap tail_of e) in
    inl (ap (λ xs. x ∷ xs) none ∙ ap (λ y. y ∷ []) (sym (ap (head_or h) e)))
first-part (y ∷ old) h (x ∷ first) rest e = by (first-part old h first rest (ap tail_of e))
  where
    same : y ≡ x
    same = ap (head_or h) e

    by : (first ≡ old ++ h ∷ []) ⊎ IsPart first rest old → (x ∷ first ≡ (y ∷ old) ++ h ∷ []) ⊎ IsPart (x ∷ first) rest (y ∷ old)
    by (inl all) = inl (ap (λ z. z ∷ first) (sym same) ∙ ap (λ xs. y ∷ xs) all)
    by (inr p) = inr (record { more = p.more; is = ap (λ z. z ∷ old) same ∙ ap (λ xs. x ∷ xs) p.is })

pub claimed-none : (net : Network) → IsClaimed (seen_of net) → AreClaimedAlong net []
claimed-none net claims first rest e =
    subst (λ (hs : List Happening). IsClaimed (seen_of (run given net hs)) × ((run given net hs).injected ≡ net.injected)) (sym (nothing-before first rest e)) (claims, refl)

pub claimed-more : (net : Network) (old new : List Happening) (h : Happening) → new ≡ old ++ h ∷ [] → AreClaimedAlong net old → IsClaimed (seen_of (run given net new)) → (run given net new).injected ≡ net.injected → AreClaimedAlong net new
claimed-more net old new h more along claims none first rest e = by (first-part old h first rest (sym more ∙ e))
  where
    by : (first ≡ old ++ h ∷ []) ⊎ IsPart first rest old → IsClaimed (seen_of (run given net first)) × ((run given net first).injected ≡ net.injected)
    by (inl all) =
        subst (λ (hs : List Happening). IsClaimed (seen_of (run given net hs)) × ((run given net hs).injected ≡ net.injected)) (more ∙ sym all) (claims, none)
    by (inr p) = along first p.more p.is
