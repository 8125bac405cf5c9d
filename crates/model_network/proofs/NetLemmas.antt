-- What is kept of a link, by each event of the network.
use Rattle.std.proofs.Common.{◌≡◌, ◌≢◌, ℕ, zero, suc, ◌<◌, length, Bool, true, false, eqb, ◌⊎◌, inl, inr, ⊎_elim, List, [], ◌∷◌, map, Option, Some, None, if◌then◌else◌, refl, sym, ap, ◌∙◌, subst, arith}
use Rattle.std.proofs.lemmas.Bool.Decides.{nat_tests}
use Rattle.std.specs.List.{AllByRecursion}
use Rattle.model_router.specs.Places.{nth}
use Rattle.isis_base.specs.declared.level.Level.{Level}
use Rattle.model_router.specs.Configs.{Config}
use Rattle.model_router.specs.Routers.{Circuit, Router}
use Rattle.model_router.specs.Good.{IsGoodMessage, IsGoodEvent}
use Rattle.model_router.specs.Datagrams.{Sent}
use Rattle.model_router.specs.Givens.{Given}
use Rattle.model_router.specs.Events.{Message, Event, Second, Take, Pull, Metric, Overload, Prefix, Reply, Done, Dropped, Send}
use Rattle.model_router.specs.Steps.{step}
use Rattle.model_router.specs.ReplyLaws.{AllSent, IsHeld, IsReplyHeld}
use Rattle.model_router.specs.AdjacencyLaws.{Stays, is_point, place_of, IsGreeting, IsReplyGreeting}
use Rattle.model_router.proofs.BookLemmas.{test, same-or}
use Rattle.model_router.proofs.SentLemmas.{step-reply}
use Rattle.model_router.proofs.BondLemmas.{step-stays}
use Rattle.model_router.proofs.GreetLemmas.{step-greets}
use Rattle.model_datagram.specs.Lsps.{given_octets}
use Rattle.model_datagram.specs.LspLaws.{TellsKept, TellsEvent, ReadsUpdate}
use Rattle.model_datagram.proofs.GoodLemmas.{good-read}
use Rattle.model_datagram.proofs.KeptLemmas.{kept-tells}
use Rattle.model_datagram.proofs.SendLemmas.{step-reads}
use Rattle.model_datagram.specs.Speakers.{IsSpeaking}
use Rattle.model_network.specs.Speakers.{AreSpeaking, AreOctets, IsLegible, NotLan}
use Rattle.model_network.specs.declared.end.End.{End}
use Rattle.model_network.specs.Networks.{Datagram, octets_of, Taking, Network, place_on, place_in, place_at, restarted}
use Rattle.model_network.specs.Runs.{read_on, post, posts, posted, moved, Happening, is_injection, restart_at, apply}
use Rattle.model_network.specs.Ports.{Port, In}
use Rattle.model_network.specs.Links.{LinkHolds, IsWired, Joins, Holds}
use Rattle.model_network.proofs.InLemmas.{in-split}
use Rattle.model_network.proofs.ChangeLemmas.{if-yes, if-no, self, differ, nth-set, nth-other, some-same, Moves, Change, Still, Moved, Restarted, apply-change}
use Rattle.model_network.proofs.PortLemmas.{uncrossed-flip, uncrossed-more, uncrossed-own}
use Rattle.model_network.proofs.ReadLemmas.{Reads, reads}
use Rattle.model_network.proofs.PointReplies.{point-reply}
use Rattle.model_network.proofs.LegibleLemmas.{small-boot, legible-sent}
use Rattle.model_network.proofs.LinkLemmas.{Carried, Posts, step-near, step-far, others-step}
use Rattle.model_network.proofs.RestartLemmas.{restart-near, restart-far}

-- ---- a link, from either side

record Sides (net : Network) (e f : Port) (k : ℕ) : Type 0 where
  near : place_at net k e.router ≡ Some e.place
  far : place_at net k f.router ≡ Some f.place
  apart : e.router ≢ f.router
  only : (i place : ℕ) → place_at net k i ≡ Some place → (i ≡ e.router) ⊎ (i ≡ f.router)

sides-flip : (net : Network) (e f : Port) (k : ℕ) → Sides net e f k → Sides net f e k
sides-flip net e f k s = record { near = s.far; far = s.near; apart = λ q. s.apart (sym q); only = λ i place q. ⊎_elim (λ x. inr x) (λ x. inl x) (s.only i place q) }

two-ends : (e f : Port) → List End
two-ends e f = record { router = e.router; place = e.place } ∷ record { router = f.router; place = f.place } ∷ []

sides : (net : Network) (e f : Port) (k : ℕ) → Joins net e f k → Sides net e f k
unfolding two-ends
sides net e f k j = record {
  near = on-link e.router ∙ if-yes _ _ _ (self e.router);
  far = on-link f.router ∙ if-no _ _ _ (differ e.router f.router j.apart) ∙ if-yes _ _ _ (self f.router);
  apart = j.apart;
  only = λ i place q. which i place (sym (on-link i) ∙ q);
}
  where
    on-link : (i : ℕ) → place_at net k i ≡ place_on (two-ends e f) i
    on-link i = ap (λ (o : Option (List End)). place_in o i) j.ends

    which : (i place : ℕ) → place_on (two-ends e f) i ≡ Some place → (i ≡ e.router) ⊎ (i ≡ f.router)
    which i place q = same-or (λ t. (if t then Some e.place else (if eqb f.router i then Some f.place else None)) ≡ Some place → (i ≡ e.router) ⊎ (i ≡ f.router)) e.router i
        (λ x _. inl (sym x))
        (λ _ p. same-or (λ t. (if t then Some f.place else None) ≡ Some place → (i ≡ e.router) ⊎ (i ≡ f.router)) f.router i (λ x _. inr (sym x)) (λ _ n. absurd (cc)) p) q

holds-flip : (net : Network) (e f : Port) (k : ℕ) → Holds net e f k → Holds net f e k
holds-flip net e f k h = record {
  a = h.b;
  b = h.a;
  at_a = h.at_b;
  at_b = h.at_a;
  holds = record {
    near = h.holds.far;
    far = h.holds.near;
    uncrossed = uncrossed-flip e f k net.datagrams h.holds.uncrossed;
    ends = λ d i q. ⊎_elim (λ x. inr x) (λ x. inl x) (h.holds.ends d i q);
  };
}

-- ---- what is posted

record Posted (i : ℕ) (link : Option ℕ) (t : Router) (place : ℕ) (d : Datagram) : Type 0 where
  sender : d.sender ≡ i
  boot : d.boot ≡ t.boot
  system : d.config.system ≡ t.config.system
  on : link ≡ Some d.link
  held : IsHeld t d.says
  greets : IsGreeting t place d.says

posted-out : (i link : ℕ) (t : Router) (place : ℕ) (c : Circuit) (out : List Sent) → AllByRecursion (IsHeld t) out → AllByRecursion (IsGreeting t place) out → (d : Datagram) → In d (map (post i link t place c) out) → Posted i (Some link) t place d
posted-out i link t place c [] h g d x = absurd x
posted-out i link t place c (s ∷ out) h g d (inl e) = subst (λ (d : Datagram). Posted i (Some link) t place d) (sym e) (record { sender = refl; boot = refl; system = refl; on = refl; held = h.0; greets = g.0 })
posted-out i link t place c (s ∷ out) h g d (inr x) = posted-out i link t place c out h.1 g.1 d x

posted-on : (i link : ℕ) (t : Router) (place : ℕ) (c : Option Circuit) (out : List Sent) → AllByRecursion (IsHeld t) out → AllByRecursion (IsGreeting t place) out → (d : Datagram) → In d (posts i link t place c out) → Posted i (Some link) t place d
posted-on i link t place None out h g d x = absurd x
posted-on i link t place (Some c) out h g d x = posted-out i link t place c out h g d x

posted-each : (i : ℕ) (link : Option ℕ) (t : Router) (place : ℕ) (reply : Reply) → IsReplyHeld t reply → IsReplyGreeting t place reply → (d : Datagram) → In d (posted i link t place reply) → Posted i link t place d
posted-each i None t place reply h g d x = absurd x
posted-each i (Some link) t place Done h g d x = absurd x
posted-each i (Some link) t place (Dropped cause) h g d x = absurd x
posted-each i (Some link) t place (Send out) h g d x = posted-on i link t place (nth t.circuits place) out h g d x

-- ---- it is legible

legible-out : (i link : ℕ) (t : Router) (place : ℕ) (c : Circuit) (out : List Sent) → IsSpeaking t → place < 255 → AllByRecursion NotLan out → AllByRecursion (IsGreeting t place) out
    → ((by : Config) (on : Circuit) → AllByRecursion (ReadsUpdate by on t.config t.boot place c) out) → (d : Datagram) → In d (map (post i link t place c) out) → IsLegible d
legible-out i link t place c [] speaks few n g u d x = absurd x
legible-out i link t place c (s ∷ out) speaks few n g u d (inl e) = subst IsLegible (sym e) (legible-sent t place c s speaks few n.0 g.0 (λ by on. (u by on).0))
legible-out i link t place c (s ∷ out) speaks few n g u d (inr x) = legible-out i link t place c out speaks few n.1 g.1 (λ by on. (u by on).1) d x

pub nth-less : (cs : List Circuit) (place : ℕ) (c : Circuit) → nth cs place ≡ Some c → place < length cs
nth-less [] place c e = absurd (cc)
nth-less (x ∷ cs) zero c e = omega arith
nth-less (x ∷ cs) (suc place) c e = let h = nth-less cs place c e in omega (arith, h)

legible-on : (i link : ℕ) (t : Router) (place : ℕ) (c : Option Circuit) (out : List Sent) → nth t.circuits place ≡ c → IsSpeaking t → AllByRecursion NotLan out → AllByRecursion (IsGreeting t place) out
    → ((by : Config) (on c : Circuit) → AllByRecursion (ReadsUpdate by on t.config t.boot place c) out) → (d : Datagram) → In d (posts i link t place c out) → IsLegible d
legible-on i link t place None out e speaks n g u d x = absurd x
legible-on i link t place (Some c) out e speaks n g u d x =
    let there = nth-less t.circuits place c e in
    let few = speaks.good.config.circuits in
    legible-out i link t place c out speaks (omega (arith, there, few)) n g (λ by on. u by on c) d x

legible-each : (i : ℕ) (link : Option ℕ) (t : Router) (place : ℕ) (reply : Reply) → IsSpeaking t → AllSent NotLan reply → IsReplyGreeting t place reply
    → ((by : Config) (on c : Circuit) → AllSent (ReadsUpdate by on t.config t.boot place c) reply) → (d : Datagram) → In d (posted i link t place reply) → IsLegible d
legible-each i None t place reply speaks n g u d x = absurd x
legible-each i (Some link) t place Done speaks n g u d x = absurd x
legible-each i (Some link) t place (Dropped cause) speaks n g u d x = absurd x
legible-each i (Some link) t place (Send out) speaks n g u d x = legible-on i link t place (nth t.circuits place) out refl speaks n g u d x

-- ---- it is no LAN hello

point-out : (i link : ℕ) (t : Router) (place : ℕ) (c : Circuit) (out : List Sent) → AllByRecursion NotLan out → (d : Datagram) → In d (map (post i link t place c) out) → NotLan d.says
point-out i link t place c [] n d x = absurd x
point-out i link t place c (s ∷ out) n d (inl e) = subst (λ (d : Datagram). NotLan d.says) (sym e) n.0
point-out i link t place c (s ∷ out) n d (inr x) = point-out i link t place c out n.1 d x

point-on : (i link : ℕ) (t : Router) (place : ℕ) (c : Option Circuit) (out : List Sent) → AllByRecursion NotLan out → (d : Datagram) → In d (posts i link t place c out) → NotLan d.says
point-on i link t place None out n d x = absurd x
point-on i link t place (Some c) out n d x = point-out i link t place c out n d x

point-each : (i : ℕ) (link : Option ℕ) (t : Router) (place : ℕ) (reply : Reply) → AllSent NotLan reply → (d : Datagram) → In d (posted i link t place reply) → NotLan d.says
point-each i None t place reply n d x = absurd x
point-each i (Some link) t place Done n d x = absurd x
point-each i (Some link) t place (Dropped cause) n d x = absurd x
point-each i (Some link) t place (Send out) n d x = point-on i link t place (nth t.circuits place) out n d x

-- ---- what a router takes is good

pub good-event : (event : Event) → ((place : ℕ) (m : Message) → event ≡ Take place m → IsGoodMessage m) → IsGoodEvent event
good-event Second f = tt
good-event (Take place m) f = f place m refl
good-event (Pull place) f = tt
good-event (Metric place metric) f = tt
good-event (Overload on) f = tt
good-event (Prefix prefix metric) f = tt

pub tells-event : (by : Config) (event : Event) → ((place : ℕ) (m : Message) → event ≡ Take place m → TellsKept by m) → TellsEvent by event
tells-event by Second f = tt
tells-event by (Take place m) f = f place m refl
tells-event by (Pull place) f = tt
tells-event by (Metric place metric) f = tt
tells-event by (Overload on) f = tt
tells-event by (Prefix prefix metric) f = tt

pub read-good-on : (r : Router) (c : Option Circuit) (octets : List ℕ) → AllByRecursion (λ octet. octet < 256) octets → IsGoodMessage (read_on r c octets)
read-good-on r None octets small = tt
read-good-on r (Some c) octets small = good-read r.config c octets small

pub read-tells-on : (r : Router) (c : Option Circuit) (octets : List ℕ) → AllByRecursion (λ octet. octet < 256) octets → TellsKept r.config (read_on r c octets)
read-tells-on r None octets small = tt
read-tells-on r (Some c) octets small = kept-tells r.config c octets small

pub in-all : (P : Datagram → Type 0) (ds : List Datagram) → AllByRecursion P ds → (d : Datagram) → In d ds → P d
in-all P [] a d i = absurd i
in-all P (x ∷ ds) a d (inl e) = subst P (sym e) a.0
in-all P (x ∷ ds) a d (inr i) = in-all P ds a.1 d i

-- the same of any router
record Plain (i : ℕ) (link : Option ℕ) (d : Datagram) : Type 0 where
  sender : d.sender ≡ i
  on : link ≡ Some d.link

plain-out : (i link : ℕ) (t : Router) (place : ℕ) (c : Circuit) (out : List Sent) (d : Datagram) → In d (map (post i link t place c) out) → Plain i (Some link) d
plain-out i link t place c [] d x = absurd x
plain-out i link t place c (s ∷ out) d (inl e) = subst (λ (d : Datagram). Plain i (Some link) d) (sym e) (record { sender = refl; on = refl })
plain-out i link t place c (s ∷ out) d (inr x) = plain-out i link t place c out d x

plain-on : (i link : ℕ) (t : Router) (place : ℕ) (c : Option Circuit) (out : List Sent) (d : Datagram) → In d (posts i link t place c out) → Plain i (Some link) d
plain-on i link t place None out d x = absurd x
plain-on i link t place (Some c) out d x = plain-out i link t place c out d x

plain-each : (i : ℕ) (link : Option ℕ) (t : Router) (place : ℕ) (reply : Reply) (d : Datagram) → In d (posted i link t place reply) → Plain i link d
plain-each i None t place reply d x = absurd x
plain-each i (Some link) t place Done d x = absurd x
plain-each i (Some link) t place (Dropped cause) d x = absurd x
plain-each i (Some link) t place (Send out) d x = plain-on i link t place (nth t.circuits place) out d x

-- ---- a router takes an event

end-moves : (leaks : Router → Level → List (ℕ × ℕ)) (attached : Router → Bool) (net : Network) (e f : Port) (k : ℕ) (link : Option ℕ) (event : Event) (r : Router) (ts : List Taking) → IsWired net → AreOctets net → IsSpeaking r → IsSpeaking (step (given_octets leaks attached) r event).router
    → Sides net e f k → Moves net e.router link event r → Holds net e f k → Holds (moved (given_octets leaks attached) net e.router link event r ts) e f k
end-moves leaks attached net e f k link event r ts wired octets speaks speaks_on s moves h = record {
  a = t;
  b = h.b;
  at_a = nth-set net.routers e.router r t moves.found;
  at_b = nth-other net.routers e.router t f.router s.apart ∙ h.at_b;
  holds = record {
    near = step-near given e r f h.b k net.datagrams more event carried posts-of held.near held.far;
    far = step-far given e r f h.b k net.datagrams more event foreign held.far;
    uncrossed = uncrossed-own e r.boot f h.b.boot k _ net.datagrams more foreign (λ d x. (each d x).boot ∙ stays.boot) held.far.hellos held.uncrossed;
    ends = λ d x q. ⊎_elim (λ (o : In d net.datagrams). held.ends d o q) (λ (o : In d more). inl (each d o).sender) (in-split d net.datagrams more x);
  };
}
  where
    given : Given
    given = given_octets leaks attached

    t : Router
    t = (step given r event).router

    stays : Stays r t
    stays = step-stays given r event

    more : List Datagram
    more = posted e.router link t (place_of event) (step given r event).reply

    held : LinkHolds e f k r h.b net.datagrams
    held = subst (λ (x : Router). LinkHolds e f k x h.b net.datagrams) (some-same h.a r (sym h.at_a ∙ moves.found)) h.holds

    greets-all : IsReplyGreeting t (place_of event) (step given r event).reply
    greets-all = step-greets given r event

    each : (d : Datagram) → In d more → Posted e.router link t (place_of event) d
    each = posted-each e.router link t (place_of event) (step given r event).reply (step-reply given r event held.near.sound.sorted) greets-all

    foreign : (d : Datagram) → In d more → d.sender ≢ f.router
    foreign d x q = s.apart (sym (each d x).sender ∙ q)

    here : (d : Datagram) → In d more → d.link ≡ k → place_of event ≡ e.place
    here d x q = some-same _ _ (sym (moves.on k ((each d x).on ∙ ap (λ (n : ℕ). Some n) q)) ∙ s.near)

    is-good : IsGoodEvent event
    is-good = good-event event (λ place m q. let a = moves.hears place m q in
        subst IsGoodMessage (sym a.read) (read-good-on r (nth r.circuits place) (octets_of a.datagram) (in-all _ net.datagrams octets a.datagram a.was_sent)))

    is-told : TellsEvent r.config event
    is-told = tells-event r.config event (λ place m q. let a = moves.hears place m q in
        subst (TellsKept r.config) (sym a.read) (read-tells-on r (nth r.circuits place) (octets_of a.datagram) (in-all _ net.datagrams octets a.datagram a.was_sent)))

    updates : (by : Config) (on c : Circuit) → AllSent (ReadsUpdate by on t.config t.boot (place_of event) c) (step given r event).reply
    updates by on c = step-reads leaks attached r event by on c t.boot (place_of event) (small-boot t.boot speaks_on.boot) speaks.sorted speaks.good speaks.telling is-good is-told speaks.sendable speaks_on.sender

    posts-of : Posts e t k more
    posts-of = record {
      sender = λ d x. (each d x).sender;
      boot = λ d x. (each d x).boot;
      system = λ d x. (each d x).system;
      held = λ d x. (each d x).held;
      greets = λ d x q. subst (λ (n : ℕ). IsGreeting t n d.says) (here d x q) (each d x).greets;
      legible = λ d x q.
          let point : is_point (nth r.circuits (place_of event)) ≡ true = ap (λ (n : ℕ). is_point (nth r.circuits n)) (here d x q) ∙ held.near.sound.point in
          legible-each e.router link t (place_of event) (step given r event).reply speaks_on (point-reply given r event point) greets-all updates d x;
      point = λ d x q.
          let point : is_point (nth r.circuits (place_of event)) ≡ true = ap (λ (n : ℕ). is_point (nth r.circuits n)) (here d x q) ∙ held.near.sound.point in
          point-each e.router link t (place_of event) (step given r event).reply (point-reply given r event point) d x;
    }

    carried : (m : Message) → event ≡ Take e.place m → Carried f h.b k net.datagrams m
    carried m q =
        let c = moves.hears e.place m q in
        let same : c.datagram.link ≡ k = wired.once c.datagram.link k e.router e.place c.on s.near in
        let from : c.datagram.sender ≡ f.router = ⊎_elim (λ x. absurd (c.foreign x)) (λ x. x) (held.ends c.datagram c.was_sent same) in
        record {
          datagram = c.datagram;
          was_sent = c.was_sent;
          sender = from;
          on = same;
          reads = subst (Reads c.datagram) (sym c.read) (reads r (nth r.circuits e.place) c.datagram (held.far.sent.legible c.datagram c.was_sent from same));
        }

-- a router that is no end
other-moves : (given : Given) (net : Network) (e f : Port) (k i : ℕ) (link : Option ℕ) (event : Event) (r : Router) (ts : List Taking) → Sides net e f k → i ≢ e.router → i ≢ f.router → Moves net i link event r → Holds net e f k → Holds (moved given net i link event r ts) e f k
other-moves given net e f k i link event r ts s no_e no_f moves h = record {
  a = h.a;
  b = h.b;
  at_a = nth-other net.routers i t e.router no_e ∙ h.at_a;
  at_b = nth-other net.routers i t f.router no_f ∙ h.at_b;
  holds = record {
    near = others-step e h.a f h.b k net.datagrams more (λ d x q. no_e (sym (each d x).sender ∙ q)) h.holds.near;
    far = others-step f h.b e h.a k net.datagrams more (λ d x q. no_f (sym (each d x).sender ∙ q)) h.holds.far;
    uncrossed = uncrossed-more e f k net.datagrams more (λ d x q. no_e (sym (each d x).sender ∙ q)) (λ d x q. no_f (sym (each d x).sender ∙ q)) h.holds.uncrossed;
    ends = λ d x q. ⊎_elim (λ (o : In d net.datagrams). h.holds.ends d o q)
        (λ (o : In d more). absurd (⊎_elim no_e no_f (s.only i (place_of event) (moves.on k ((each d o).on ∙ ap (λ (n : ℕ). Some n) q))))) (in-split d net.datagrams more x);
  };
}
  where
    t : Router
    t = (step given r event).router

    more : List Datagram
    more = posted i link t (place_of event) (step given r event).reply

    each : (d : Datagram) → In d more → Plain i link d
    each = plain-each i link t (place_of event) (step given r event).reply

moved-holds : (leaks : Router → Level → List (ℕ × ℕ)) (attached : Router → Bool) (net : Network) (e f : Port) (k i : ℕ) (link : Option ℕ) (event : Event) (r : Router) (ts : List Taking) → IsWired net → AreOctets net → IsSpeaking r → IsSpeaking (step (given_octets leaks attached) r event).router
    → Sides net e f k → Moves net i link event r → Holds net e f k → Holds (moved (given_octets leaks attached) net i link event r ts) e f k
moved-holds leaks attached net e f k i link event r ts wired octets speaks speaks_on s moves h =
    test (λ t. eqb i e.router ≡ t → Holds (moved given net i link event r ts) e f k) (eqb i e.router)
    (λ _ y. at-end e f s h (grind (arith, nat_tests)))
    (λ _ n. test (λ t. eqb i f.router ≡ t → Holds (moved given net i link event r ts) e f k) (eqb i f.router)
    (λ _ y. holds-flip (moved given net i link event r ts) f e k (at-end f e (sides-flip net e f k s) (holds-flip net e f k h) (grind (arith, nat_tests))))
    (λ _ m. other-moves given net e f k i link event r ts s (λ q. grind (arith, nat_tests)) (λ q. grind (arith, nat_tests)) moves h) refl) refl
  where
    given : Given
    given = given_octets leaks attached

    at-end : (e f : Port) → Sides net e f k → Holds net e f k → i ≡ e.router → Holds (moved given net i link event r ts) e f k
    at-end e f s h same = subst (λ (n : ℕ). Moves net n link event r → Holds (moved given net n link event r ts) e f k) (sym same) (λ m. end-moves leaks attached net e f k link event r ts wired octets speaks speaks_on s m h) moves

-- ---- restarts

restart-end : (net : Network) (e f : Port) (k : ℕ) (r : Router) → Sides net e f k → nth net.routers e.router ≡ Some r → Holds net e f k → Holds (restart_at net e.router (Some r)) e f k
restart-end net e f k r s q h = record {
  a = restarted r;
  b = h.b;
  at_a = nth-set net.routers e.router r (restarted r) q;
  at_b = nth-other net.routers e.router (restarted r) f.router s.apart ∙ h.at_b;
  holds = record {
    near = restart-near e r f h.b k net.datagrams held.near;
    far = restart-far e r f h.b k net.datagrams held.far;
    uncrossed = held.uncrossed;
    ends = held.ends;
  };
}
  where
    held : LinkHolds e f k r h.b net.datagrams
    held = subst (λ (x : Router). LinkHolds e f k x h.b net.datagrams) (some-same h.a r (sym h.at_a ∙ q)) h.holds

restart-holds : (net : Network) (e f : Port) (k i : ℕ) (r : Router) → nth net.routers i ≡ Some r → Sides net e f k → Holds net e f k → Holds (restart_at net i (Some r)) e f k
restart-holds net e f k i r q s h =
    test (λ t. eqb i e.router ≡ t → Holds (restart_at net i (Some r)) e f k) (eqb i e.router)
    (λ _ y. at-end e f s h (grind (arith, nat_tests)))
    (λ _ n. test (λ t. eqb i f.router ≡ t → Holds (restart_at net i (Some r)) e f k) (eqb i f.router)
    (λ _ y. holds-flip (restart_at net i (Some r)) f e k (at-end f e (sides-flip net e f k s) (holds-flip net e f k h) (grind (arith, nat_tests))))
    (λ _ m. record {
      a = h.a;
      b = h.b;
      at_a = nth-other net.routers i (restarted r) e.router (λ x. grind (arith, nat_tests)) ∙ h.at_a;
      at_b = nth-other net.routers i (restarted r) f.router (λ x. grind (arith, nat_tests)) ∙ h.at_b;
      holds = h.holds;
    }) refl) refl
  where
    at-end : (e f : Port) → Sides net e f k → Holds net e f k → i ≡ e.router → Holds (restart_at net i (Some r)) e f k
    at-end e f s h same = subst (λ (n : ℕ). nth net.routers n ≡ Some r → Holds (restart_at net n (Some r)) e f k) (sym same) (λ x. restart-end net e f k r s x h) q

-- ---- each event

change-holds : (leaks : Router → Level → List (ℕ × ℕ)) (attached : Router → Bool) (net new : Network) (e f : Port) (k : ℕ) → IsWired net → AreOctets net → AreSpeaking net → AreSpeaking new → Sides net e f k → Change (given_octets leaks attached) net new → Holds net e f k → Holds new e f k
change-holds leaks attached net new e f k wired octets speak speak_on s (Still _) h = h
change-holds leaks attached net new e f k wired octets speak speak_on s (Moved i link event r ts moves _) h =
    moved-holds leaks attached net e f k i link event r ts wired octets (speak i r moves.found)
    (speak_on i (step (given_octets leaks attached) r event).router (nth-set net.routers i r (step (given_octets leaks attached) r event).router moves.found)) s moves h
change-holds leaks attached net new e f k wired octets speak speak_on s (Restarted i r q) h = restart-holds net e f k i r q s h

pub apply-holds : (leaks : Router → Level → List (ℕ × ℕ)) (attached : Router → Bool) (net : Network) (e f : Port) (k : ℕ) (h : Happening) → is_injection h ≡ false → IsWired net → Joins net e f k → AreOctets net → AreSpeaking net
    → AreSpeaking (apply (given_octets leaks attached) net h) → Holds net e f k → Holds (apply (given_octets leaks attached) net h) e f k
apply-holds leaks attached net e f k x quiet wired j octets speak speak_on h =
    change-holds leaks attached net (apply (given_octets leaks attached) net x) e f k wired octets speak speak_on (sides net e f k j) (apply-change (given_octets leaks attached) net x quiet) h
