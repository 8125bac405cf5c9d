-- Each live LSP comes from its system's router: at the start, and after each event.
use Rattle.std.proofs.Common.{◌≡◌, ℕ, ◌<◌, ◌≤◌, eqb, Bool, true, false, ◌⊎◌, inl, inr, ⊎_elim, List, [], ◌∷◌, map, length, drop, Option, Some, None, if◌then◌else◌, refl, sym, ap, ◌∙◌, subst, arith}
use Rattle.std.proofs.lemmas.Bool.Decides.{nat_tests}
use Rattle.std.specs.List.{AllByRecursion}
use Rattle.isis_base.specs.declared.level.Level.{Level}
use Rattle.isis_base.specs.declared.level.Level.TheVariants as level
use Rattle.model_router.specs.Both.{at}
use Rattle.model_router.specs.Maps.{find}
use Rattle.model_router.specs.Places.{nth, with_nth}
use Rattle.model_router.specs.Ranks.{is_live, is_purge}
use Rattle.model_router.specs.Cells.{Cell, Heard, kept, header_of}
use Rattle.model_router.specs.Books.{cell_at}
use Rattle.model_router.specs.Configs.{Config}
use Rattle.model_router.specs.Routers.{Circuit, Router, level_of, book_of}
use Rattle.model_router.specs.Deeds.{Content, content_of}
use Rattle.model_router.specs.Datagrams.{Sent, PointHello, LanHello, Lsp, Csnp, Psnp}
use Rattle.model_router.specs.Givens.{Given}
use Rattle.model_router.specs.Events.{Envelope, Message, LspHeard, Event, Take, Reply, Done, Dropped, Send}
use Rattle.model_router.specs.Steps.{step}
use Rattle.model_router.specs.Good.{IsGoodMessage, IsGoodEvent}
use Rattle.model_router.specs.Hearings.{Source, Taken, Made, hearing}
use Rattle.model_router.specs.ContentLaws.{Comes, Tells}
use Rattle.model_router.specs.ReplyLaws.{AllSent, WasHeld, IsExact, IsFine}
use Rattle.model_router.specs.AdjacencyLaws.{place_of, IsGreeting, IsReplyGreeting}
use Rattle.model_router.proofs.BookLemmas.{test}
use Rattle.model_router.proofs.StepWays.{step-course}
use Rattle.model_router.proofs.TellLemmas.{course-tells}
use Rattle.model_router.proofs.BondLemmas.{step-stays}
use Rattle.model_router.proofs.GreetLemmas.{step-greets}
use Rattle.model_router.proofs.ExactLemmas.{step-exact}
use Rattle.model_router.proofs.FineLemmas.{step-fine}
use Rattle.model_datagram.specs.Lsps.{with_lifetime, signed_purge, lsp_sent, given_octets}
use Rattle.model_datagram.specs.Datagrams.{pdu_octets}
use Rattle.model_datagram.specs.Said.{envelope, said}
use Rattle.model_datagram.specs.LspLaws.{ReadsUpdate, TellsKept, TellsEvent}
use Rattle.model_datagram.specs.Speakers.{IsSpeaking}
use Rattle.model_datagram.proofs.ListLemmas.{of-leading}
use Rattle.model_datagram.proofs.SendLemmas.{step-reads}
use Rattle.model_network.specs.Networks.{Datagram, octets_of, Taking, Network, restarted}
use Rattle.model_network.specs.Runs.{read_on, post, posts, posted, moved, Happening, is_injection, restart_at, apply}
use Rattle.model_network.specs.Speakers.{IsReading, IsLegible, AreSpeaking, AreOctets}
use Rattle.model_network.specs.Ports.{In}
use Rattle.model_network.proofs.InLemmas.{in-split}
use Rattle.model_network.proofs.LegibleLemmas.{small-boot, legible-sent}
use Rattle.model_network.proofs.NetLemmas.{nth-less, good-event, tells-event, read-good-on, read-tells-on, in-all}
use Rattle.model_network.proofs.ChangeLemmas.{nth-set, nth-other, some-same, Moves, Change, Still, Moved, Restarted, apply-change}
use Rattle.model_network.proofs.SilentLemmas.{lan-silent}
use Rattle.model_datagram.specs.Reading.{read}
use Rattle.model_network.specs.Origins.{Body, body_of, IsSilent, IsClear, WasOwned, IsPlain, HaveOrigins, HoldsNothing, IsSingle}

-- what was once, was
was-more : (r : Router) (past : List Router) (l : Level) (id rank : ℕ) (body : Body) → WasOwned past l id rank body → WasOwned (r ∷ past) l id rank body
was-more r past l id rank body e = record { owner = e.owner; was = inr e.was; own = e.own; cell = e.cell; held = e.held; rank_is = e.rank_is; body_is = e.body_is }

was-same : (past : List Router) (l : Level) (id m n : ℕ) (a b : Body) → m ≡ n → a ≡ b → WasOwned past l id m a → WasOwned past l id n b
was-same past l id m n a b e f w = subst (λ (x : ℕ). WasOwned past l id x b) e (subst (λ (x : Body). WasOwned past l id m x) f w)

live-as : (m n : ℕ) → m ≡ n → is_live m ≡ true → is_live n ≡ true
live-as m n e h = subst (λ (x : ℕ). is_live x ≡ true) e h

-- ---- what is taken was said

live-plain : (rank : ℕ) → is_live rank ≡ true → is_purge rank ≡ false
live-plain rank e = grind (arith, nat_tests)

-- contents of one kind have one body
abbrev body-in : Content → Body
body-in c = record { flags = c.flags; tlvs = drop 27 c.octets }

abbrev body : ℕ → List ℕ → Body
body flags octets = record { flags = flags; tlvs = drop 27 octets }

kept-body : (h : Heard) → is_live h.rank ≡ true → body_of (kept h) ≡ body h.flags h.octets
kept-body h live = by-purge (is_purge h.rank) (live-plain h.rank live)
  where
    by-purge : (t : Bool) → t ≡ false → body h.flags (if t then header_of h.octets else h.octets) ≡ body h.flags h.octets
    by-purge true e = absurd (cc)
    by-purge false e = refl

same-tlvs : (octets : List ℕ) (left : ℕ) → 12 ≤ length octets → drop 27 (with_lifetime left octets) ≡ drop 27 octets
same-tlvs octets left = of-leading 12 (λ octets. drop 27 (with_lifetime left octets) ≡ drop 27 octets) (λ a b c d e f g h j k l m rest. refl) octets

sent-tlvs : (key : Option (List ℕ)) (cell : Cell) → is_live cell.rank ≡ true → 27 ≤ length cell.octets → drop 27 (lsp_sent key cell) ≡ drop 27 cell.octets
unfolding lsp_sent
sent-tlvs key cell live long = by-live (is_live cell.rank) live
  where
    by-live : (t : Bool) → t ≡ true → drop 27 (if t then with_lifetime cell.left cell.octets else signed_purge key cell.octets) ≡ drop 27 cell.octets
    by-live true e = same-tlvs cell.octets cell.left (omega (arith, long))
    by-live false e = absurd (cc)

-- an LSP that is heard is what a datagram says
record SaidLsp (d : Datagram) (l : Level) (h : Heard) : Type 0 where
  cell : Cell
  says : d.says ≡ Lsp l h.id cell
  rank : cell.rank ≡ h.rank
  body : is_live h.rank ≡ true → body_of cell ≡ body_of (kept h)

same-level : (l m : Level) (a b : Envelope) (g h : Heard) → LspHeard l a g ≡ LspHeard m b h → l ≡ m
same-level l m a b g h e = cc

same-heard : (l m : Level) (a b : Envelope) (g h : Heard) → LspHeard l a g ≡ LspHeard m b h → g ≡ h
same-heard l m a b g h e = cc

-- what is read of a datagram that says an LSP
said-lsp : (own : ℕ) (d : Datagram) (m : Level) (id : ℕ) (cell : Cell) → d.says ≡ Lsp m id cell → (is_live cell.rank ≡ true → 27 ≤ length cell.octets) → (l : Level) (from : Envelope) (h : Heard)
    → LspHeard l from h ≡ said own d.config d.boot d.place d.circuit (Lsp m id cell) → SaidLsp d l h
unfolding pdu_octets
said-lsp own d m id cell e long l from h q = record {
  cell = cell;
  says = e ∙ ap (λ (n : ℕ). Lsp m n cell) (ap (λ (x : Heard). x.id) (sym here)) ∙ ap (λ (n : Level). Lsp n h.id cell) (sym there);
  rank = ap (λ (x : Heard). x.rank) (sym here);
  body = λ live. with-body live ∙ sym (kept-body h live);
}
  where
    with-tlvs : List ℕ → Body
    with-tlvs t = record { flags = cell.flags; tlvs = t }

    there : l ≡ m
    there = same-level l m from (envelope d.config d.boot) h _ q

    here : h ≡ record { id = id; rank = cell.rank; checksum = cell.checksum; flags = cell.flags; left = if is_live cell.rank then cell.left else 0; octets = lsp_sent (at d.config.keys m) cell }
    here = same-heard l m from (envelope d.config d.boot) h _ q

    with-body : is_live h.rank ≡ true → body_of cell ≡ body h.flags h.octets
    with-body live =
        let alive = live-as h.rank cell.rank (ap (λ (x : Heard). x.rank) here) live in
        subst (λ (x : Heard). body_of cell ≡ body x.flags x.octets) (sym here)
        (ap (λ (t : List ℕ). with-tlvs t) (sym (sent-tlvs (at d.config.keys m) cell alive (long alive))))

-- what a clear datagram is read as, where that is an LSP
read-lsp : (own : ℕ) (d : Datagram) (s : Sent) → d.says ≡ s → IsPlain d → (l : Level) (from : Envelope) (h : Heard)
    → IsReading (LspHeard l from h) (said own d.config d.boot d.place d.circuit s) → SaidLsp d l h
read-lsp own d s e plain l from h (inl q) = absurd (let clash = q.1 in cc)
read-lsp own d (PointHello state extended names) e plain l from h (inr q) = absurd (cc)
read-lsp own d (LanHello m lan snpas) e plain l from h (inr q) = absurd (cc)
read-lsp own d (Lsp m id cell) e plain l from h (inr q) = said-lsp own d m id cell e (plain.header m id cell e) l from h q
read-lsp own d (Csnp m start end entries) e plain l from h (inr q) = absurd (cc)
read-lsp own d (Psnp m entries) e plain l from h (inr q) = absurd (cc)

read-on : (r : Router) (c : Option Circuit) (d : Datagram) → IsPlain d → (l : Level) (from : Envelope) (h : Heard) → LspHeard l from h ≡ read_on r c (octets_of d) → SaidLsp d l h
read-on r None d plain l from h q = absurd (cc)
read-on r (Some c) d plain l from h q = ⊎_elim
    (λ (legible : IsLegible d). read-lsp r.config.system d d.says refl plain l from h (subst (λ (m : Message). IsReading m (said r.config.system d.config d.boot d.place d.circuit d.says)) (sym q) (legible r.config c)))
    (λ (silent : (by : Config) (on : Circuit) → IsSilent (read by on (octets_of d))). absurd (subst IsSilent (sym q) (silent r.config c)))
    plain.clear

-- ---- what a step holds

-- an event takes only what was said in the network
record TakesSaid (net : Network) (event : Event) : Type 0 where
  said : (place : ℕ) (from : Envelope) (l : Level) (h : Heard) → event ≡ Take place (LspHeard l from h) → (d : Datagram) × In d net.datagrams × SaidLsp d l h

takes-said : (net : Network) (i : ℕ) (link : Option ℕ) (event : Event) (r : Router) → Moves net i link event r → ((d : Datagram) → In d net.datagrams → IsPlain d) → TakesSaid net event
takes-said net i link event r m plain = record {
  said = λ place from l h q.
      let a = m.hears place (LspHeard l from h) q in
      (a.datagram, a.was_sent, read-on r (nth r.circuits place) a.datagram (plain a.datagram a.was_sent) l from h a.read);
}

module _ (leaks : Router → Level → List (ℕ × ℕ)) (attached : Router → Bool) where
  abbrev given : Given
  given = given_octets leaks attached

  -- a live cell after a step
  step-origin : (net : Network) (i : ℕ) (event : Event) (r : Router) → IsSpeaking r → TakesSaid net event → HaveOrigins net → nth net.routers i ≡ Some r
      → (l : Level) (id : ℕ) (cell : Cell) → cell_at (book_of (step given r event).router l) id ≡ Some cell → is_live cell.rank ≡ true → WasOwned ((step given r event).router ∷ net.past) l id cell.rank (body_of cell)
  step-origin net i event r speaks takes h at_r l id cell e live =
      from ((subst (λ (o : Option Cell). Comes (Source given r event l id) (cell_at (book_of r l) id) o) e (tells.comes id)) live)
    where
      t : Router
      t = (step given r event).router

      tells : Tells (Source given r event l) (book_of r l) (book_of t l)
      tells = course-tells (hearing given r event l) (level_of r l) (level_of t l) ((step-course given r event).on l)

      was-held : (o : Option Cell) → cell_at (book_of r l) id ≡ o → WasHeld o cell → WasOwned (t ∷ net.past) l id cell.rank (body_of cell)
      was-held None k x = absurd x
      was-held (Some c) k x =
          was-more t net.past l id cell.rank (body_of cell)
          (was-same net.past l id c.rank cell.rank (body_of c) (body_of cell) x.0 (ap body-in x.1) (h.held i r l id c at_r k (live-as cell.rank c.rank (sym x.0) live)))

      taken : (place : ℕ) (from : Envelope) (y : Heard) → event ≡ Take place (LspHeard l from y) → id ≡ y.id → cell.rank ≡ y.rank → content_of cell ≡ content_of (kept y) → WasOwned (t ∷ net.past) l id cell.rank (body_of cell)
      taken place from y q id_is rank_is content_is =
          let found = takes.said place from l y q in
          let s = found.2 in
          let alive = live-as cell.rank y.rank rank_is live in
          let old = h.said found.0 l y.id s.cell found.1 s.says (live-as y.rank s.cell.rank (sym s.rank) alive) in
          was-more t net.past l id cell.rank (body_of cell)
          (subst (λ (n : ℕ). WasOwned net.past l n cell.rank (body_of cell)) (sym id_is)
          (was-same net.past l y.id s.cell.rank cell.rank (body_of s.cell) (body_of cell) (s.rank ∙ sym rank_is) (s.body alive ∙ ap body-in (sym content_is)) old))

      source : Source given r event l id cell.rank (content_of cell) → WasOwned (t ∷ net.past) l id cell.rank (body_of cell)
      source (Taken place from y q id_is rank_is content_is) = taken place from y q id_is rank_is content_is
      source (Made old number contents config mine rank_is content_is) = record {
        owner = t;
        was = inl refl;
        own = mine.own speaks.good.config ∙ sym (step-stays given r event).system;
        cell = cell;
        held = e;
        rank_is = refl;
        body_is = refl;
      }

      from : WasHeld (cell_at (book_of r l) id) cell ⊎ Source given r event l id cell.rank (content_of cell) → WasOwned (t ∷ net.past) l id cell.rank (body_of cell)
      from (inl x) = was-held (cell_at (book_of r l) id) refl x
      from (inr x) = source x

  -- ---- what is sent

  exact-out : (i link : ℕ) (t : Router) (place : ℕ) (c : Circuit) (out : List Sent) → AllByRecursion (IsExact t) out → AllByRecursion IsFine out → (d : Datagram) → In d (map (post i link t place c) out) → IsExact t d.says × IsFine d.says
  exact-out i link t place c [] h f d x = absurd x
  exact-out i link t place c (s ∷ out) h f d (inl e) = subst (λ (d : Datagram). IsExact t d.says × IsFine d.says) (sym e) (h.0, f.0)
  exact-out i link t place c (s ∷ out) h f d (inr x) = exact-out i link t place c out h.1 f.1 d x

  exact-on : (i link : ℕ) (t : Router) (place : ℕ) (c : Option Circuit) (out : List Sent) → AllByRecursion (IsExact t) out → AllByRecursion IsFine out → (d : Datagram) → In d (posts i link t place c out) → IsExact t d.says × IsFine d.says
  exact-on i link t place None out h f d x = absurd x
  exact-on i link t place (Some c) out h f d x = exact-out i link t place c out h f d x

  exact-each : (i : ℕ) (link : Option ℕ) (t : Router) (place : ℕ) (reply : Reply) → AllSent (IsExact t) reply → AllSent IsFine reply → (d : Datagram) → In d (posted i link t place reply) → IsExact t d.says × IsFine d.says
  exact-each i None t place reply h f d x = absurd x
  exact-each i (Some link) t place Done h f d x = absurd x
  exact-each i (Some link) t place (Dropped cause) h f d x = absurd x
  exact-each i (Some link) t place (Send out) h f d x = exact-on i link t place (nth t.circuits place) out h f d x

  clear-one : (i link : ℕ) (t : Router) (place : ℕ) (c : Circuit) (s : Sent) → IsSpeaking t → place < 255 → IsGreeting t place s → ((by : Config) (on : Circuit) → ReadsUpdate by on t.config t.boot place c s) → IsClear (post i link t place c s)
  clear-one i link t place c (PointHello state extended names) speaks few g u = inl (legible-sent t place c (PointHello state extended names) speaks few tt g u)
  clear-one i link t place c (LanHello l lan snpas) speaks few g u = inr (λ by on. lan-silent by t.config on c t.boot place (small-boot t.boot speaks.boot) l lan snpas speaks.sender.system)
  clear-one i link t place c (Lsp l id cell) speaks few g u = inl (legible-sent t place c (Lsp l id cell) speaks few tt g u)
  clear-one i link t place c (Csnp l start end entries) speaks few g u = inl (legible-sent t place c (Csnp l start end entries) speaks few tt g u)
  clear-one i link t place c (Psnp l entries) speaks few g u = inl (legible-sent t place c (Psnp l entries) speaks few tt g u)

  clear-out : (i link : ℕ) (t : Router) (place : ℕ) (c : Circuit) (out : List Sent) → IsSpeaking t → place < 255 → AllByRecursion (IsGreeting t place) out
      → ((by : Config) (on : Circuit) → AllByRecursion (ReadsUpdate by on t.config t.boot place c) out) → (d : Datagram) → In d (map (post i link t place c) out) → IsClear d
  clear-out i link t place c [] speaks few g u d x = absurd x
  clear-out i link t place c (s ∷ out) speaks few g u d (inl e) = subst IsClear (sym e) (clear-one i link t place c s speaks few g.0 (λ by on. (u by on).0))
  clear-out i link t place c (s ∷ out) speaks few g u d (inr x) = clear-out i link t place c out speaks few g.1 (λ by on. (u by on).1) d x

  clear-on : (i link : ℕ) (t : Router) (place : ℕ) (c : Option Circuit) (out : List Sent) → nth t.circuits place ≡ c → IsSpeaking t → AllByRecursion (IsGreeting t place) out
      → ((by : Config) (on c : Circuit) → AllByRecursion (ReadsUpdate by on t.config t.boot place c) out) → (d : Datagram) → In d (posts i link t place c out) → IsClear d
  clear-on i link t place None out e speaks g u d x = absurd x
  clear-on i link t place (Some c) out e speaks g u d x =
      let there = nth-less t.circuits place c e in
      let few = speaks.good.config.circuits in
      clear-out i link t place c out speaks (omega (arith, there, few)) g (λ by on. u by on c) d x

  clear-each : (i : ℕ) (link : Option ℕ) (t : Router) (place : ℕ) (reply : Reply) → IsSpeaking t → IsReplyGreeting t place reply
      → ((by : Config) (on c : Circuit) → AllSent (ReadsUpdate by on t.config t.boot place c) reply) → (d : Datagram) → In d (posted i link t place reply) → IsClear d
  clear-each i None t place reply speaks g u d x = absurd x
  clear-each i (Some link) t place Done speaks g u d x = absurd x
  clear-each i (Some link) t place (Dropped cause) speaks g u d x = absurd x
  clear-each i (Some link) t place (Send out) speaks g u d x = clear-on i link t place (nth t.circuits place) out refl speaks g u d x

  has-header : (s : Sent) → IsFine s → (l : Level) (id : ℕ) (cell : Cell) → s ≡ Lsp l id cell → is_live cell.rank ≡ true → 27 ≤ length cell.octets
  has-header s fine l id cell q live = from-fine (subst IsFine q fine)
    where
      from-fine : IsFine (Lsp l id cell) → 27 ≤ length cell.octets
      from-fine f = f.1.header f.2

  -- ---- a router takes an event

  moved-origins : (net : Network) (i : ℕ) (link : Option ℕ) (event : Event) (r : Router) (ts : List Taking) → AreOctets net → IsSpeaking r → IsSpeaking (step given r event).router → Moves net i link event r → HaveOrigins net → HaveOrigins (moved given net i link event r ts)
  moved-origins net i link event r ts octets speaks speaks_on m h = record { held = held; said = said-of; plain = plain }
    where
      t : Router
      t = (step given r event).router

      new : Network
      new = moved given net i link event r ts

      more : List Datagram
      more = posted i link t (place_of event) (step given r event).reply

      at_t : nth new.routers i ≡ Some t
      at_t = nth-set net.routers i r t m.found

      mine : (l : Level) (id : ℕ) (cell : Cell) → cell_at (book_of t l) id ≡ Some cell → is_live cell.rank ≡ true → WasOwned new.past l id cell.rank (body_of cell)
      mine = step-origin net i event r speaks (takes-said net i link event r m h.plain) h m.found

      held : (j : ℕ) (s : Router) (l : Level) (id : ℕ) (cell : Cell) → nth new.routers j ≡ Some s → cell_at (book_of s l) id ≡ Some cell → is_live cell.rank ≡ true → WasOwned new.past l id cell.rank (body_of cell)
      held j s l id cell at_s e live =
          test (λ b. eqb i j ≡ b → WasOwned new.past l id cell.rank (body_of cell)) (eqb i j)
          (λ _ y. let same : i ≡ j = grind (arith, nat_tests) in
          let here : t ≡ s = some-same t s (sym at_t ∙ ap (λ (n : ℕ). nth new.routers n) same ∙ at_s) in
          mine l id cell (ap (λ (x : Router). cell_at (book_of x l) id) here ∙ e) live)
          (λ _ n. was-more t net.past l id cell.rank (body_of cell) (h.held j s l id cell (sym (nth-other net.routers i t j (λ q. grind (arith, nat_tests))) ∙ at_s) e live)) refl

      is-good : IsGoodEvent event
      is-good = good-event event (λ place x q. let a = m.hears place x q in
          subst IsGoodMessage (sym a.read) (read-good-on r (nth r.circuits place) (octets_of a.datagram) (in-all _ net.datagrams octets a.datagram a.was_sent)))

      is-told : TellsEvent r.config event
      is-told = tells-event r.config event (λ place x q. let a = m.hears place x q in
          subst (TellsKept r.config) (sym a.read) (read-tells-on r (nth r.circuits place) (octets_of a.datagram) (in-all _ net.datagrams octets a.datagram a.was_sent)))

      sent : (d : Datagram) → In d more → IsExact t d.says × IsFine d.says
      sent = exact-each i link t (place_of event) (step given r event).reply (step-exact given r event speaks.sorted) (step-fine given r event speaks.sorted speaks.good is-good)

      was-held : (l : Level) (id : ℕ) (cell : Cell) (o : Option Cell) → cell_at (book_of t l) id ≡ o → WasHeld o cell → is_live cell.rank ≡ true → WasOwned new.past l id cell.rank (body_of cell)
      was-held l id cell None k x live = absurd x
      was-held l id cell (Some c) k x live =
          was-same new.past l id c.rank cell.rank (body_of c) (body_of cell) x.0 (ap body-in x.1) (mine l id c k (live-as cell.rank c.rank (sym x.0) live))

      said-of : (d : Datagram) (l : Level) (id : ℕ) (cell : Cell) → In d new.datagrams → d.says ≡ Lsp l id cell → is_live cell.rank ≡ true → WasOwned new.past l id cell.rank (body_of cell)
      said-of d l id cell x q live = ⊎_elim
          (λ (o : In d net.datagrams). was-more t net.past l id cell.rank (body_of cell) (h.said d l id cell o q live))
          (λ (o : In d more). was-held l id cell (cell_at (book_of t l) id) refl (subst (IsExact t) q (sent d o).0) live)
          (in-split d net.datagrams more x)

      updates : (by : Config) (on c : Circuit) → AllSent (ReadsUpdate by on t.config t.boot (place_of event) c) (step given r event).reply
      updates by on c = step-reads leaks attached r event by on c t.boot (place_of event) (small-boot t.boot speaks_on.boot) speaks.sorted speaks.good speaks.telling is-good is-told speaks.sendable speaks_on.sender

      plain : (d : Datagram) → In d new.datagrams → IsPlain d
      plain d x = ⊎_elim (λ (o : In d net.datagrams). h.plain d o)
          (λ (o : In d more). record {
            clear = clear-each i link t (place_of event) (step given r event).reply speaks_on (step-greets given r event) updates d o;
            header = has-header d.says (sent d o).1;
          }) (in-split d net.datagrams more x)

  -- ---- each event

  -- a restarted router holds nothing
  restart-empty : (r : Router) (l : Level) (id : ℕ) (cell : Cell) → cell_at (book_of (restarted r) l) id ≡ Some cell → ⊥
  restart-empty r level.One id cell e = cc
  restart-empty r level.Two id cell e = cc

  restart-origins : (net : Network) (i : ℕ) (r : Router) → nth net.routers i ≡ Some r → HaveOrigins net → HaveOrigins (restart_at net i (Some r))
  restart-origins net i r q h = record {
    held = λ j s l id cell at_s e live.
        test (λ b. eqb i j ≡ b → WasOwned net.past l id cell.rank (body_of cell)) (eqb i j)
        (λ _ y. let same : i ≡ j = grind (arith, nat_tests) in
        let here : restarted r ≡ s = some-same (restarted r) s (sym (nth-set net.routers i r (restarted r) q) ∙ ap (λ (n : ℕ). nth (with_nth net.routers i (restarted r)) n) same ∙ at_s) in
        absurd (restart-empty r l id cell (ap (λ (x : Router). cell_at (book_of x l) id) here ∙ e)))
        (λ _ n. h.held j s l id cell (sym (nth-other net.routers i (restarted r) j (λ x. grind (arith, nat_tests))) ∙ at_s) e live) refl;
    said = h.said;
    plain = h.plain;
  }

  change-origins : (net new : Network) → AreOctets net → AreSpeaking net → AreSpeaking new → Change given net new → HaveOrigins net → HaveOrigins new
  change-origins net new octets speak speak_on (Still _) h = h
  change-origins net new octets speak speak_on (Moved i link event r ts m _) h =
      moved-origins net i link event r ts octets (speak i r m.found) (speak_on i (step given r event).router (nth-set net.routers i r (step given r event).router m.found)) m h
  change-origins net new octets speak speak_on (Restarted i r q) h = restart-origins net i r q h

  pub apply-origins : (net : Network) (h : Happening) → is_injection h ≡ false → AreOctets net → AreSpeaking net → AreSpeaking (apply given net h)
      → HaveOrigins net → HaveOrigins (apply given net h)
  apply-origins net h plain octets speak speak_on o = change-origins net (apply given net h) octets speak speak_on (apply-change given net h plain) o

-- ---- the start

nothing-found : (o : List (ℕ × Cell)) (id : ℕ) (cell : Cell) → o ≡ [] → find o id ≡ Some cell → ⊥
nothing-found [] id cell q e = cc
nothing-found (x ∷ o) id cell q e = cc

no-datagram : (ds : List Datagram) (d : Datagram) → ds ≡ [] → In d ds → ⊥
no-datagram [] d q i = i
no-datagram (x ∷ ds) d q i = cc

pub start-origins : (net : Network) → HoldsNothing net → HaveOrigins net
start-origins net n = record {
  held = λ i r l id cell q e live. absurd (nothing-found _ id cell (n.empty i r l q) e);
  said = λ d l id cell x q live. absurd (no-datagram net.datagrams d n.nothing x);
  plain = λ d x. absurd (no-datagram net.datagrams d n.nothing x);
}

-- ---- equal bodies

pub one-body : (net : Network) (i j : ℕ) (a b : Router) (l : Level) (id : ℕ) (c d : Cell) → HaveOrigins net → IsSingle net.past l id
    → nth net.routers i ≡ Some a → nth net.routers j ≡ Some b → cell_at (book_of a l) id ≡ Some c → cell_at (book_of b l) id ≡ Some d → c.rank ≡ d.rank → is_live c.rank ≡ true → body_of c ≡ body_of d
one-body net i j a b l id c d h single x y p q same live =
    single.one c.rank (body_of c) (body_of d) live (h.held i a l id c x p live)
    (was-same net.past l id d.rank c.rank (body_of d) (body_of d) (sym same) refl (h.held j b l id d y q (live-as c.rank d.rank same live)))
