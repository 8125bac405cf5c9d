-- What an event does to a network: nothing, or one router takes an event, or one restarts.
use Rattle.std.proofs.Common.{◌≡◌, ◌≢◌, ℕ, zero, suc, ◌==◌, eqb, Bool, true, false, inl, inr, List, [], ◌∷◌, Option, Some, None, if◌then◌else◌, refl, sym, ap, ◌∙◌, subst, arith}
use Rattle.std.proofs.lemmas.Bool.Decides.{nat_tests}
use Rattle.std.specs.Option.{option_map}
use Rattle.model_router.specs.Places.{nth, with_nth}
use Rattle.model_router.specs.Routers.{Router}
use Rattle.model_router.specs.Givens.{Given}
use Rattle.model_router.specs.Events.{Message, Event, Second, Take, Pull, Metric, Overload, Prefix}
use Rattle.model_router.specs.AdjacencyLaws.{place_of}
use Rattle.model_router.proofs.BookLemmas.{test, same-or}
use Rattle.model_router.proofs.TouchLemmas.{nth-with_nth}
use Rattle.model_network.specs.Networks.{Datagram, octets_of, Taking, Network, place_at, numbered}
use Rattle.model_network.specs.Runs.{read_on, taking, moved, moved_if, Happening, Tick, PullOn, Deliver, Restart, SetMetric, SetOverload, SetPrefix, Inject, is_injection, NotOn, on_place, arrival, ranges_in, deliver_at, arrive, pull_at, restart_at, apply}
use Rattle.model_network.specs.Ports.{In}

-- ---- lists

pub if-yes : {A : Type 0} (x y : A) (t : Bool) → t ≡ true → (if t then x else y) ≡ x
if-yes x y t e = ap (λ b. if b then x else y) e

pub if-no : {A : Type 0} (x y : A) (t : Bool) → t ≡ false → (if t then x else y) ≡ y
if-no x y t e = ap (λ b. if b then x else y) e

pub self : (n : ℕ) → eqb n n ≡ true
self n = grind (arith, nat_tests)

pub differ : (m n : ℕ) → m ≢ n → eqb m n ≡ false
differ m n h = same-or (λ t. t ≡ false) m n (λ e. absurd (h e)) (λ _. refl)

pub nth-set : {A : Type 0} (xs : List A) (i : ℕ) (r t : A) → nth xs i ≡ Some r → nth (with_nth xs i t) i ≡ Some t
nth-set xs i r t e = nth-with_nth xs i t i ∙ if-yes _ _ _ (self i) ∙ ap (option_map (λ (_ : _). t)) e

pub nth-other : {A : Type 0} (xs : List A) (i : ℕ) (t : A) (j : ℕ) → i ≢ j → nth (with_nth xs i t) j ≡ nth xs j
nth-other xs i t j n = nth-with_nth xs i t j ∙ if-no _ _ _ (differ i j n)

pub some-same : {A : Type 0} (a b : A) → Some a ≡ Some b → a ≡ b
some-same a b e = cc

-- what holds of all routers, of one that is new and of all others
pub each-router : (P : Router → Type 0) (rs : List Router) (i : ℕ) (r t : Router) → nth rs i ≡ Some r → P t → ((j : ℕ) (s : Router) → nth rs j ≡ Some s → P s) → (j : ℕ) (s : Router) → nth (with_nth rs i t) j ≡ Some s → P s
each-router P rs i r t q p all j s e =
    test (λ b. eqb i j ≡ b → P s) (eqb i j)
    (λ _ y. let same : i ≡ j = grind (arith, nat_tests) in subst P (some-same t s (sym (nth-set rs i r t q) ∙ ap (λ (n : ℕ). nth (with_nth rs i t) n) same ∙ e)) p)
    (λ _ n. all j s (sym (nth-other rs i t j (λ x. grind (arith, nat_tests))) ∙ e)) refl

-- ---- a router takes an event

-- a message that a datagram brings to a router's circuit
pub record Arrived (net : Network) (i : ℕ) (r : Router) (place : ℕ) (m : Message) : Type 0 where
  pub datagram : Datagram
  pub was_sent : In datagram net.datagrams
  pub foreign : datagram.sender ≢ i
  pub on : place_at net datagram.link i ≡ Some place
  pub read : m ≡ read_on r (nth r.circuits place) (octets_of datagram)

-- an event of a router, and where it comes from
pub record Moves (net : Network) (i : ℕ) (link : Option ℕ) (event : Event) (r : Router) : Type 0 where
  pub found : nth net.routers i ≡ Some r
  pub on : (l : ℕ) → link ≡ Some l → place_at net l i ≡ Some (place_of event)
  pub hears : (place : ℕ) (m : Message) → event ≡ Take place m → Arrived net i r place m

-- the ranges that a router takes in an event: none, or those of a datagram that it hears
pub data Brings (given : Given) (net : Network) (i : ℕ) (r : Router) : List Taking → Type 0 where
  Nothing : Brings given net i r []
  Ranges : (d : Datagram) (place : ℕ) → In d net.datagrams → Brings given net i r (ranges_in given i r place d)

-- what an event makes of a network
pub data Change (given : Given) (net : Network) : Network → Type 0 where
  Still : (same : Network) → Change given net net
  Moved : (i : ℕ) (link : Option ℕ) (event : Event) (r : Router) (ts : List Taking) → Moves net i link event r → Brings given net i r ts → Change given net (moved given net i link event r ts)
  Restarted : (i : ℕ) (r : Router) → nth net.routers i ≡ Some r → Change given net (restart_at net i (Some r))

-- ---- deliveries

pub nth-in : (ds : List Datagram) (n : ℕ) (d : Datagram) → nth ds n ≡ Some d → In d ds
nth-in [] n d e = absurd (cc)
nth-in (x ∷ ds) zero d e = inl (sym (some-same x d e))
nth-in (x ∷ ds) (suc n) d e = inr (nth-in ds n d e)

-- what holds of a datagram that arrives
record Lands (net : Network) (i : ℕ) (d : Datagram) (place : ℕ) : Type 0 where
  foreign : d.sender ≢ i
  on : place_at net d.link i ≡ Some place

same-place : (p q : ℕ) (m n : Message) → Take p m ≡ Take q n → p ≡ q
same-place p q m n e = cc

same-message : (p q : ℕ) (m n : Message) → Take p m ≡ Take q n → m ≡ n
same-message p q m n e = cc

taken-change : (given : Given) (net : Network) (i : ℕ) (d : Datagram) (place : ℕ) (r : Option Router) → nth net.routers i ≡ r → In d net.datagrams → Lands net i d place → Change given net (deliver_at given net i d place r)
taken-change given net i d place None q x l = Still net
taken-change given net i d place (Some r) q x l = Moved i (Some d.link) (taking r place (octets_of d)) r (ranges_in given i r place d) (record {
  found = q;
  on = λ k y. subst (λ (n : ℕ). place_at net n i ≡ Some place) (some-same _ _ y) l.on;
  hears = λ p m y.
      let here : place ≡ p = same-place _ _ _ _ y in
      record {
        datagram = d;
        was_sent = x;
        foreign = l.foreign;
        on = l.on ∙ ap (λ (n : ℕ). Some n) here;
        read = sym (same-message _ _ _ _ y) ∙ ap (λ (n : ℕ). read_on r (nth r.circuits n) (octets_of d)) here;
      };
}) (Ranges d place x)

placed-change : (given : Given) (net : Network) (i : ℕ) (d : Datagram) (o : Option ℕ) → place_at net d.link i ≡ o → In d net.datagrams → d.sender ≢ i → Change given net (arrive given net i (on_place d o))
placed-change given net i d None q x foreign = Still net
placed-change given net i d (Some place) q x foreign = taken-change given net i d place (nth net.routers i) refl x (record { foreign = foreign; on = q })

-- a delivery, by what becomes of it
deliver-change : (given : Given) (net : Network) (i : ℕ) (o : Option Datagram) → ((d : Datagram) → o ≡ Some d → In d net.datagrams) → Change given net (arrive given net i (arrival net o i))
deliver-change given net i None there = Still net
deliver-change given net i (Some d) there =
    test (λ t. (d.sender == i) ≡ t → Change given net (arrive given net i (if t then NotOn else on_place d (place_at net d.link i)))) (d.sender == i)
    (λ _ _. Still net)
    (λ _ n. placed-change given net i d (place_at net d.link i) refl (there d refl) (λ x. grind (arith, nat_tests))) refl

-- ---- the others

moved_if-change : (given : Given) (net : Network) (i : ℕ) (link : Option ℕ) (event : Event) (o : Option Router) → ((r : Router) → o ≡ Some r → Moves net i link event r) → Change given net (moved_if given net i link event o)
moved_if-change given net i link event None moves = Still net
moved_if-change given net i link event (Some r) moves = Moved i link event r [] (moves r refl) Nothing

-- an event without a circuit
alone : (net : Network) (i : ℕ) (event : Event) → ((place : ℕ) (m : Message) → event ≡ Take place m → ⊥) → (r : Router) → nth net.routers i ≡ Some r → Moves net i None event r
alone net i event quiet r q = record { found = q; on = λ l x. absurd (cc); hears = λ place m x. absurd (quiet place m x) }

pull-change : (given : Given) (net : Network) (i link : ℕ) (o : Option ℕ) → place_at net link i ≡ o → Change given net (pull_at given net i link o)
pull-change given net i link None q = Still net
pull-change given net i link (Some place) q = moved_if-change given net i (Some link) (Pull place) (nth net.routers i) (λ r x. record {
  found = x;
  on = λ l y. subst (λ (n : ℕ). place_at net n i ≡ Some place) (some-same link l y) q;
  hears = λ p m y. absurd (cc);
})

restart-change : (given : Given) (net : Network) (i : ℕ) (o : Option Router) → nth net.routers i ≡ o → Change given net (restart_at net i o)
restart-change given net i None q = Still net
restart-change given net i (Some r) q = Restarted i r q

-- ---- each event

numbered-in : (ds : List Datagram) (n : ℕ) (d : Datagram) → numbered ds n ≡ Some d → In d ds
numbered-in ds zero d e = absurd (cc)
numbered-in ds (suc n) d e = nth-in ds n d e

pub apply-change : (given : Given) (net : Network) (h : Happening) → is_injection h ≡ false → Change given net (apply given net h)
unfolding apply
apply-change given net (Tick i) q = moved_if-change given net i None Second (nth net.routers i) (alone net i Second (λ p m x. absurd (cc)))
apply-change given net (PullOn i link) q = pull-change given net i link (place_at net link i) refl
apply-change given net (Deliver n i) q = deliver-change given net i (numbered net.datagrams n) (λ d x. numbered-in net.datagrams n d x)
apply-change given net (Restart i) q = restart-change given net i (nth net.routers i) refl
apply-change given net (SetMetric i place metric) q = moved_if-change given net i None (Metric place metric) (nth net.routers i) (alone net i (Metric place metric) (λ p m x. absurd (cc)))
apply-change given net (SetOverload i on) q = moved_if-change given net i None (Overload on) (nth net.routers i) (alone net i (Overload on) (λ p m x. absurd (cc)))
apply-change given net (SetPrefix i prefix metric) q = moved_if-change given net i None (Prefix prefix metric) (nth net.routers i) (alone net i (Prefix prefix metric) (λ p m x. absurd (cc)))
apply-change given net (Inject i link octets) q = absurd (cc)
