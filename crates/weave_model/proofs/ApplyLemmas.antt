-- What an event of a network that is a router's move does to the network.
use Rattle.std.proofs.Common.{◌≡◌, ◌≢◌, ℕ, ◌-◌, ◌==◌, ◌⊎◌, inl, inr, Bool, true, false, List, [], ◌∷◌, ◌++◌, map, Option, Some, None, if◌then◌else◌, refl, sym, ap, ◌∙◌, subst}
use Rattle.std.proofs.lemmas.List.{append-nil}
use Rattle.std.proofs.lemmas.Bool.Decides.{eqb_tells}
use Rattle.model_router.specs.Places.{nth, with_nth}
use Rattle.model_router.specs.Givens.{Given}
use Rattle.model_router.specs.Datagrams.{Sent}
use Rattle.model_router.specs.Routers.{Circuit, Router}
use Rattle.model_router.specs.Events as model
use Rattle.model_router.specs.Events.{Event, Reply}
use Rattle.model_router.specs.Steps.{step}
use Rattle.model_router.specs.AdjacencyLaws.{place_of}
use Rattle.model_network.specs.declared.end.End.{End}
use Rattle.model_network.specs.Networks.{Datagram, octets_of, Taking, Network, place_in, place_at, numbered, restarted}
use Rattle.model_network.specs.Runs.{Happening, post, posts, posted, moved, moved_if, pull_at, restart_at, arrive, arrival, Arrives, NotOn, Arrival, on_place, deliver_at, taking, ranges_in, apply}
use Rattle.weave_core.specs.declared.moves.Move.{Move as CoreMove}
use Rattle.weave_core.specs.declared.moves.Sent.{Sent as CoreSent}
use Rattle.weave_core.specs.Fits.{sent_by}
use Rattle.weave_model.specs.Entries.{Deed, Second, Take, Pull, Metric, Overload, Prefix, Answer, next, octets_on, answer_by, answer_to}
use Rattle.weave_model.specs.Weavings.{Move, Does, Restarts, IsDeed, IsMove}
use Rattle.weave_model.specs.Coding.{sends_of, IsOn, IsDeedCode, IsMoveCode, after_move, IsGoodMove, letter_of}

-- a place of a router belongs to one link
pub record AreWired (links : List (List End)) : Type 0 where
  pub once : (link other router place : ℕ) → place_in (nth links link) router ≡ Some place → place_in (nth links other) router ≡ Some place → link ≡ other

-- a network in which one router is in another state, and has sent letters
pub record Applied (code : ℕ → List ℕ → ℕ) (net after : Network) (i : ℕ) (r : Router) (letters : List ℕ) : Type 0 where
  pub routers : after.routers ≡ with_nth net.routers i r
  pub links : after.links ≡ net.links
  pub new : List Datagram
  pub datagrams : after.datagrams ≡ net.datagrams ++ new
  pub sent : map (letter_of code) new ≡ sent_by i letters

-- ---- what is sent

posts-letters : (code : ℕ → List ℕ → ℕ) (i link : ℕ) (r : Router) (place : ℕ) (c : Option Circuit) (out : List Sent) → map (letter_of code) (posts i link r place c out) ≡ sent_by i (map (code link) (octets_on r place c out))
posts-letters code i link r place None out = refl
posts-letters code i link r place (Some c) [] = refl
posts-letters code i link r place (Some c) (x ∷ out) = ap (λ (ss : List CoreSent). letter_of code (post i link r place c x) ∷ ss) (posts-letters code i link r place (Some c) out)

posted-letters : (code : ℕ → List ℕ → ℕ) (i link : ℕ) (r : Router) (place : ℕ) (reply : Reply) → map (letter_of code) (posted i (Some link) r place reply) ≡ sent_by i (map (code link) (sends_of (answer_by r place reply)))
posted-letters code i link r place model.Done = refl
posted-letters code i link r place (model.Dropped cause) = refl
posted-letters code i link r place (model.Send out) = posts-letters code i link r place (nth r.circuits place) out

-- ---- one event

moved-applied : (given : Given) (code : ℕ → List ℕ → ℕ) (net : Network) (i link : ℕ) (event : Event) (r : Router) (place : ℕ) (takings : List Taking) → place_of event ≡ place → Applied code net (moved given net i (Some link) event r takings) i (step given r event).router (map (code link) (sends_of (answer_by (step given r event).router place (step given r event).reply)))
moved-applied given code net i link event r place takings e =
    subst (λ (p : ℕ). Applied code net (moved given net i (Some link) event r takings) i (step given r event).router (map (code link) (sends_of (answer_by (step given r event).router p (step given r event).reply)))) e
    (record {
      routers = refl;
      links = refl;
      new = posted i (Some link) (step given r event).router (place_of event) (step given r event).reply;
      datagrams = refl;
      sent = posted-letters code i link (step given r event).router (place_of event) (step given r event).reply;
    })

quiet-applied : (given : Given) (code : ℕ → List ℕ → ℕ) (net : Network) (i : ℕ) (event : Event) (r : Router) (o : Option Router) (letters : List ℕ) → o ≡ Some r → letters ≡ [] → Applied code net (moved_if given net i None event o) i (step given r event).router letters
quiet-applied given code net i event r o letters e quiet =
    subst (λ (p : Option Router). Applied code net (moved_if given net i None event p) i (step given r event).router letters) (sym e)
    (subst (λ (ls : List ℕ). Applied code net (moved given net i None event r []) i (step given r event).router ls) (sym quiet)
    (record { routers = refl; links = refl; new = []; datagrams = refl; sent = refl }))

restart-applied : (code : ℕ → List ℕ → ℕ) (net : Network) (i : ℕ) (r : Router) (o : Option Router) (letters : List ℕ) → o ≡ Some r → letters ≡ [] → Applied code net (restart_at net i o) i (restarted r) letters
restart-applied code net i r o letters e quiet =
    subst (λ (p : Option Router). Applied code net (restart_at net i p) i (restarted r) letters) (sym e)
    (subst (λ (ls : List ℕ). Applied code net (restart_at net i (Some r)) i (restarted r) ls) (sym quiet)
    (record { routers = refl; links = refl; new = []; datagrams = sym (append-nil net.datagrams); sent = refl }))

pull-applied : (given : Given) (code : ℕ → List ℕ → ℕ) (net : Network) (i link place : ℕ) (r : Router) (p : Option ℕ) (o : Option Router) → p ≡ Some place → o ≡ Some r → nth net.routers i ≡ o → Applied code net (pull_at given net i link p) i (step given r (model.Pull place)).router (map (code link) (sends_of (answer_by (step given r (model.Pull place)).router place (step given r (model.Pull place)).reply)))
pull-applied given code net i link place r p o at e same =
    subst (λ (q : Option ℕ). Applied code net (pull_at given net i link q) i (step given r (model.Pull place)).router (map (code link) (sends_of (answer_by (step given r (model.Pull place)).router place (step given r (model.Pull place)).reply)))) (sym at)
    (subst (λ (q : Option Router). Applied code net (moved_if given net i (Some link) (model.Pull place) q) i (step given r (model.Pull place)).router (map (code link) (sends_of (answer_by (step given r (model.Pull place)).router place (step given r (model.Pull place)).reply)))) (sym (same ∙ e))
    (moved-applied given code net i link (model.Pull place) r place [] refl))

arrival-is : (net : Network) (i number place : ℕ) (d : Datagram) → numbered net.datagrams number ≡ Some d → d.sender ≢ i → place_at net d.link i ≡ Some place → arrival net (numbered net.datagrams number) i ≡ Arrives d place
arrival-is net i number place d there other on =
    ap (λ (o : Option Datagram). arrival net o i) there ∙ by (eqb_tells d.sender i)
  where
    by : (((d.sender == i) ≡ true) × (d.sender ≡ i)) ⊎ (((d.sender == i) ≡ false) × (d.sender ≢ i)) → arrival net (Some d) i ≡ Arrives d place
    by (inl h) = absurd (other h.1)
    by (inr h) = ap (λ (b : Bool). if b then NotOn else on_place d (place_at net d.link i)) h.0 ∙ ap (on_place d) on

take-applied : (given : Given) (code : ℕ → List ℕ → ℕ) (net : Network) (i place : ℕ) (octets : List ℕ) (r : Router) (d : Datagram) (a : Arrival) → a ≡ Arrives d place → octets_of d ≡ octets → nth net.routers i ≡ Some r → Applied code net (arrive given net i a) i (step given r (taking r place octets)).router (map (code d.link) (sends_of (answer_by (step given r (taking r place octets)).router place (step given r (taking r place octets)).reply)))
take-applied given code net i place octets r d a arrives same e =
    subst (λ (os : List ℕ). Applied code net (arrive given net i a) i (step given r (taking r place os)).router (map (code d.link) (sends_of (answer_by (step given r (taking r place os)).router place (step given r (taking r place os)).reply)))) same
    (subst (λ (b : Arrival). Applied code net (arrive given net i b) i (step given r (taking r place (octets_of d))).router (map (code d.link) (sends_of (answer_by (step given r (taking r place (octets_of d))).router place (step given r (taking r place (octets_of d))).reply)))) (sym arrives)
    (subst (λ (o : Option Router). Applied code net (deliver_at given net i d place o) i (step given r (taking r place (octets_of d))).router (map (code d.link) (sends_of (answer_by (step given r (taking r place (octets_of d))).router place (step given r (taking r place (octets_of d))).reply)))) (sym e)
    (moved-applied given code net i d.link (taking r place (octets_of d)) r place (ranges_in given i r place d) refl)))

-- ---- a move

-- the letters that a move sends are those of its answer, on whichever link the circuit is
on-letters : (code : ℕ → List ℕ → ℕ) (links : List (List End)) (i place link : ℕ) (needs : ℕ → Option ℕ) (answer says : Answer) (m : CoreMove) → AreWired links → place_in (nth links link) i ≡ Some place → says ≡ answer → IsOn code links i place needs answer m → map (code link) (sends_of says) ≡ m.sends
on-letters code links i place link needs answer says m wired on same h =
    ap (λ (a : Answer). map (code link) (sends_of a)) same
    ∙ ap (λ (l : ℕ). map (code l) (sends_of answer)) (wired.once link h.link i place on h.on)
    ∙ sym h.sends_are

deed-applied : (given : Given) (code : ℕ → List ℕ → ℕ) (count : ℕ) (links : List (List End)) (net : Network) (i : ℕ) (r : Router) (deed : Deed) (answer : Answer) (m : CoreMove) (h : Happening) → net.links ≡ links → AreWired links → nth net.routers i ≡ Some r → IsDeed net i deed h → answer_to given r deed ≡ answer → IsDeedCode code count links i deed answer m → Applied code net (apply given net h) i (next given r deed) m.sends
unfolding apply
deed-applied given code count links net i r Second answer m h same wired at is says c =
    subst (λ (x : Happening). Applied code net (apply given net x) i (next given r Second) m.sends) (sym is) (quiet-applied given code net i model.Second r (nth net.routers i) m.sends at c.sends_are)
deed-applied given code count links net i r (Metric circuit metric) answer m h same wired at is says c =
    subst (λ (x : Happening). Applied code net (apply given net x) i (next given r (Metric circuit metric)) m.sends) (sym is) (quiet-applied given code net i (model.Metric (circuit - 1) metric) r (nth net.routers i) m.sends at c.sends_are)
deed-applied given code count links net i r (Overload on) answer m h same wired at is says c =
    subst (λ (x : Happening). Applied code net (apply given net x) i (next given r (Overload on)) m.sends) (sym is) (quiet-applied given code net i (model.Overload on) r (nth net.routers i) m.sends at c.sends_are)
deed-applied given code count links net i r (Prefix prefix metric) answer m h same wired at is says c =
    subst (λ (x : Happening). Applied code net (apply given net x) i (next given r (Prefix prefix metric)) m.sends) (sym is) (quiet-applied given code net i (model.Prefix prefix metric) r (nth net.routers i) m.sends at c.sends_are)
deed-applied given code count links net i r (Pull circuit) answer m h same wired at is says c =
    subst (λ (x : Happening). Applied code net (apply given net x) i (next given r (Pull circuit)) m.sends) (sym is.event)
    (subst (λ (ls : List ℕ). Applied code net (pull_at given net i is.link (place_at net is.link i)) i (next given r (Pull circuit)) ls)
    (on-letters code links i (circuit - 1) is.link (λ (link : ℕ). None) answer (answer_to given r (Pull circuit)) m wired (subst (λ (ls : List (List End)). place_in (nth ls is.link) i ≡ Some (circuit - 1)) same is.on) says c)
    (pull-applied given code net i is.link (circuit - 1) r (place_at net is.link i) (nth net.routers i) is.on at refl))
deed-applied given code count links net i r (Take circuit octets) answer m h same wired at is says c =
    subst (λ (x : Happening). Applied code net (apply given net x) i (next given r (Take circuit octets)) m.sends) (sym is.event)
    (subst (λ (ls : List ℕ). Applied code net (arrive given net i (arrival net (numbered net.datagrams is.number) i)) i (next given r (Take circuit octets)) ls)
    (on-letters code links i (circuit - 1) is.d.link (λ (link : ℕ). Some (code link octets)) answer (answer_to given r (Take circuit octets)) m wired (subst (λ (ls : List (List End)). place_in (nth ls is.d.link) i ≡ Some (circuit - 1)) same is.on) says c.on)
    (take-applied given code net i (circuit - 1) octets r is.d (arrival net (numbered net.datagrams is.number) i) (arrival-is net i is.number (circuit - 1) is.d is.there is.other is.on) is.octets_are at))

pub move-applied : (given : Given) (code : ℕ → List ℕ → ℕ) (count : ℕ) (links : List (List End)) (net : Network) (i : ℕ) (r : Router) (move : Move) (m : CoreMove) (h : Happening) → net.links ≡ links → AreWired links → nth net.routers i ≡ Some r → IsMove net i move h → IsGoodMove given r move → IsMoveCode code count links i move m → Applied code net (apply given net h) i (after_move given r move) m.sends
unfolding apply
move-applied given code count links net i r (Does e) m h same wired at is good c = deed-applied given code count links net i r e.deed e.answer m h same wired at is good.answered c
move-applied given code count links net i r Restarts m h same wired at is good c =
    subst (λ (x : Happening). Applied code net (apply given net x) i (restarted r) m.sends) (sym is) (restart-applied code net i r (nth net.routers i) m.sends at c.sends_are)
