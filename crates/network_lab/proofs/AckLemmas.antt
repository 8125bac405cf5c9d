-- An acknowledgement that is delivered clears the flag.
use Rattle.std.proofs.Common.{◌≡◌, ℕ, zero, suc, true, false, ⊎_elim, List, Option, Some, None, refl, sym, ap, ◌∙◌, subst}
use Rattle.isis_base.specs.declared.level.Level.{Level}
use Rattle.isis_base.specs.declared.level.Level.TheVariants as level
use Rattle.model_router.specs.declared.drop_name.DropName.{DropName}
use Rattle.model_router.specs.Sets.{has}
use Rattle.model_router.specs.Places.{nth, with_nth}
use Rattle.model_router.specs.SnpTable.{SnpEntry}
use Rattle.model_router.specs.SweepLaws.{ListsOnce, Frees}
use Rattle.model_router.specs.Books.{srm_at}
use Rattle.model_router.specs.Configs.{Config}
use Rattle.model_router.specs.Routers.{Circuit, Router, LevelState, level_of, with_level, book_of}
use Rattle.model_router.specs.Datagrams.{Sent, PointHello, LanHello, Lsp, Csnp, Psnp}
use Rattle.model_router.specs.Events.{Envelope, Message, Refused, SnpHeard, Take}
use Rattle.model_router.specs.AdjacencyLaws.{is_point}
use Rattle.model_router.specs.Receiving.{drop_of, scene_of, take_or_drop, take}
use Rattle.model_router.specs.Takes.{take_snp}
use Rattle.model_router.specs.Steps.{step}
use Rattle.model_router.proofs.FreeLemmas.{snp-frees}
use Rattle.model_datagram.specs.Said.{envelope, said}
use Rattle.router_core.specs.Givens.{given}
use Rattle.router_core.specs.Reached.{IsReached}
use Rattle.model_network.specs.Networks.{Datagram, octets_of, Network, numbered}
use Rattle.model_network.specs.Runs.{read_on, taking, Deliver, Arrives, Arrival, arrival, arrive, deliver_at, apply}
use Rattle.model_network.specs.Ports.{Port, In}
use Rattle.model_network.specs.Kept.{IsPointLink}
use Rattle.model_network.specs.Speakers.{IsLegible, IsReading}
use Rattle.model_network.proofs.ChangeLemmas.{nth-in, nth-set, some-same}
use Rattle.network_lab.proofs.ReachedLemmas.{arrival-same}
use Rattle.network_lab.specs.Reached.{IsReachedNet}
use Rattle.network_lab.specs.Acknowledged.{IsListing, IsTaken, Acknowledges}

-- ---- a router

book-with : (r : Router) (l : Level) (s : LevelState) → book_of (with_level r l s) l ≡ s.book
book-with r level.One s = refl
book-with r level.Two s = refl

-- what is taken frees the flag
pub snp-taken : (r : Router) (place : ℕ) (l : Level) (from : Envelope) (source : ℕ) (range : Option (ℕ × ℕ)) (entries : List SnpEntry) (h : SnpEntry) → IsReached r → is_point (nth r.circuits place) ≡ true
    → IsTaken (step given r (Take place (SnpHeard l from source range entries))).reply → ListsOnce entries h → Frees (book_of r l) h
    → srm_at (book_of (step given r (Take place (SnpHeard l from source range entries))).router l) h.id place ≡ false
unfolding step
snp-taken r place l from source range entries h reached point taken once frees = on (nth r.circuits place) point taken
  where
    m : Message
    m = SnpHeard l from source range entries

    kind : has (book_of r l).p2p place ≡ true
    kind = reached.follows.points l place ∙ point

    free : srm_at (take_snp (scene_of given r l) (level_of r l) r.config.system place range entries).book h.id place ≡ false
    free = snp-frees (scene_of given r l) (level_of r l) r.config.system place range entries h kind (reached.speaking.good.on l) once frees

    by : (c : Circuit) (o : Option DropName) → IsTaken (take_or_drop given r place c (SnpHeard l from source range entries) o).reply → srm_at (book_of (take_or_drop given r place c (SnpHeard l from source range entries) o).router l) h.id place ≡ false
    by c (Some cause) t = absurd (t cause refl)
    by c None t = ap (λ b. srm_at b h.id place) (book-with r l (take_snp (scene_of given r l) (level_of r l) r.config.system place range entries)) ∙ free

    on : (o : Option Circuit) → is_point o ≡ true → IsTaken (take given r place (SnpHeard l from source range entries) o).reply → srm_at (book_of (take given r place (SnpHeard l from source range entries) o).router l) h.id place ≡ false
    on None p t = absurd (cc)
    on (Some c) p t = by c (drop_of r place c (SnpHeard l from source range entries)) t

-- ---- a delivery

-- what is refused is dropped
refused-drops : (r : Router) (place : ℕ) (cause : DropName) → is_point (nth r.circuits place) ≡ true → IsTaken (step given r (Take place (Refused cause))).reply → ⊥
unfolding step
refused-drops r place cause point taken = on (nth r.circuits place) point taken
  where
    on : (o : Option Circuit) → is_point o ≡ true → IsTaken (take given r place (Refused cause) o).reply → ⊥
    on None p t = cc
    on (Some c) p t = t cause refl

-- a message is refused, or is what is said
by-reading : (r : Router) (place : ℕ) (l : Level) (h : SnpEntry) (m says : Message) → is_point (nth r.circuits place) ≡ true → IsReading m says → IsTaken (step given r (Take place m)).reply
    → (IsTaken (step given r (Take place says)).reply → srm_at (book_of (step given r (Take place says)).router l) h.id place ≡ false)
    → srm_at (book_of (step given r (Take place m)).router l) h.id place ≡ false
by-reading r place l h m says point reads taken f = ⊎_elim
    (λ (refused : (cause : DropName) × (m ≡ Refused cause)). absurd (refused-drops r place refused.0 point (subst (λ (x : Message). IsTaken (step given r (Take place x)).reply) refused.1 taken)))
    (λ (same : m ≡ says). subst (λ (x : Message). srm_at (book_of (step given r (Take place x)).router l) h.id place ≡ false) (sym same) (f (subst (λ (x : Message). IsTaken (step given r (Take place x)).reply) same taken))) reads

-- what is said is taken
said-taken : (r : Router) (place : ℕ) (config : Config) (boot from : ℕ) (c : Circuit) (s : Sent) (l : Level) (entries : List SnpEntry) (h : SnpEntry) (m : Message) → IsReached r → is_point (nth r.circuits place) ≡ true → IsListing s l entries → ListsOnce entries h → Frees (book_of r l) h
    → IsReading m (said r.config.system config boot from c s) → IsTaken (step given r (Take place m)).reply → srm_at (book_of (step given r (Take place m)).router l) h.id place ≡ false
said-taken r place config boot from c (PointHello state extended names) l entries h m reached point lists once frees reads taken = absurd lists
said-taken r place config boot from c (LanHello k lan snpas) l entries h m reached point lists once frees reads taken = absurd lists
said-taken r place config boot from c (Lsp k id cell) l entries h m reached point lists once frees reads taken = absurd lists
said-taken r place config boot from c (Csnp k start end listed) l entries h m reached point lists once frees reads taken =
    by-reading r place l h m (SnpHeard k (envelope config boot) config.system (Some (start, end)) listed) point reads taken
    (λ t. subst (λ (x : Level). srm_at (book_of (step given r (Take place (SnpHeard k (envelope config boot) config.system (Some (start, end)) listed))).router x) h.id place ≡ false) lists.0
    (snp-taken r place k (envelope config boot) config.system (Some (start, end)) listed h reached point t (subst (λ (es : List SnpEntry). ListsOnce es h) (sym lists.1) once) (subst (λ (x : Level). Frees (book_of r x) h) (sym lists.0) frees)))
said-taken r place config boot from c (Psnp k listed) l entries h m reached point lists once frees reads taken =
    by-reading r place l h m (SnpHeard k (envelope config boot) config.system None listed) point reads taken
    (λ t. subst (λ (x : Level). srm_at (book_of (step given r (Take place (SnpHeard k (envelope config boot) config.system None listed))).router x) h.id place ≡ false) lists.0
    (snp-taken r place k (envelope config boot) config.system None listed h reached point t (subst (λ (es : List SnpEntry). ListsOnce es h) (sym lists.1) once) (subst (λ (x : Level). Frees (book_of r x) h) (sym lists.0) frees)))

read-taken : (r : Router) (d : Datagram) (place : ℕ) (l : Level) (entries : List SnpEntry) (h : SnpEntry) → IsReached r → is_point (nth r.circuits place) ≡ true → IsLegible d → IsListing d.says l entries → ListsOnce entries h → Frees (book_of r l) h
    → IsTaken (step given r (taking r place (octets_of d))).reply → srm_at (book_of (step given r (taking r place (octets_of d))).router l) h.id place ≡ false
read-taken r d place l entries h reached point legible lists once frees taken = on (nth r.circuits place) point taken
  where
    on : (o : Option Circuit) → is_point o ≡ true → IsTaken (step given r (Take place (read_on r o (octets_of d)))).reply → srm_at (book_of (step given r (Take place (read_on r o (octets_of d)))).router l) h.id place ≡ false
    on None p t = absurd (cc)
    on (Some c) p t = said-taken r place d.config d.boot d.place d.circuit d.says l entries h _ reached point lists once frees (legible r.config c) t

-- ---- in a network

arrived-in : (net : Network) (n i : ℕ) (d : Datagram) (place : ℕ) → arrival net (numbered net.datagrams n) i ≡ Arrives d place → In d net.datagrams
arrived-in net n i d place e = of n e
  where
    not-sent : (o : Option Datagram) → o ≡ None → arrival net o i ≡ Arrives d place → ⊥
    not-sent None q e = cc
    not-sent (Some x) q e = cc

    of : (n : ℕ) → arrival net (numbered net.datagrams n) i ≡ Arrives d place → In d net.datagrams
    of zero e = absurd (cc)
    of (suc n) e = here (nth net.datagrams n) refl e
      where
        here : (o : Option Datagram) → nth net.datagrams n ≡ o → arrival net o i ≡ Arrives d place → In d net.datagrams
        here None q e = absurd (cc)
        here (Some x) q e = nth-in net.datagrams n d (q ∙ ap Some (arrival-same net x d i place e))

pub ack-clears : (net : Network) (e f : Port) (link n : ℕ) (a : Router) (l : Level) (h : SnpEntry) → IsReachedNet net → net.injected ≡ 0 → IsPointLink net e f link → Acknowledges net e f link n a l h
    → (t : Router) → nth (apply given net (Deliver n e.router)).routers e.router ≡ Some t → srm_at (book_of t l) h.id e.place ≡ false
unfolding apply
ack-clears net e f link n a l h reached none there k t now =
    subst (λ (x : Router). srm_at (book_of x l) h.id e.place ≡ false) (some-same new t (sym (nth-set net.routers e.router a new k.at) ∙ (sym routers_are ∙ now)))
    (read-taken a d e.place l k.entries h (reached.routers e.router a k.at) point legible k.lists k.once k.frees k.taken)
  where
    d : Datagram
    d = k.datagram

    new : Router
    new = (step given a (taking a e.place (octets_of d))).router

    routers_are : nth (arrive given net e.router (arrival net (numbered net.datagrams n) e.router)).routers e.router ≡ nth (with_nth net.routers e.router new) e.router
    routers_are = ap (λ (x : Arrival). nth (arrive given net e.router x).routers e.router) k.arrives
        ∙ ap (λ (o : Option Router). nth (deliver_at given net e.router d e.place o).routers e.router) k.at

    point : is_point (nth a.circuits e.place) ≡ true
    point = subst (λ (x : Router). is_point (nth x.circuits e.place) ≡ true) (some-same there.near.a a (sym there.near.at_a ∙ k.at)) there.near.point

    legible : IsLegible d
    legible = let holds = reached.kept.holds none e f link there in holds.holds.far.sent.legible d (arrived-in net n e.router d e.place k.arrives) k.sender k.on
