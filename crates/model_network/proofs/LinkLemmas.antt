-- What is kept of a link, by a step of one of its ends, by its restart, and by others.
use Rattle.std.proofs.Common.{◌≡◌, ◌≢◌, ℕ, ◌≤◌, eqb, true, arith, ◌⊎◌, inl, inr, ⊎_elim, List, ◌++◌, Option, Some, None, if◌then◌else◌, refl, sym, ap, ◌∙◌, subst, zero-le, le_trans, le_of_eq}
use Rattle.isis_tlv.specs.declared.three_way.Adj.TheVariants.{Up}
use Rattle.isis_base.specs.declared.level.Level.{Level}
use Rattle.isis_base.specs.declared.level.Level.TheVariants as level
use Rattle.model_router.specs.Sets.{has}
use Rattle.model_router.specs.Books.{rank_at}
use Rattle.model_router.specs.LetGos.{lets_go}
use Rattle.model_router.specs.Adjacencies.{Handshake, Hello}
use Rattle.model_router.specs.Routers.{Router, level_of, book_of, extended_of}
use Rattle.model_router.specs.Givens.{Given}
use Rattle.model_router.specs.Datagrams.{PointHello}
use Rattle.std.proofs.lemmas.Bool.Decides.{nat_tests}
use Rattle.model_router.specs.declared.drop_name.DropName.TheVariants.{NoAdjacency}
use Rattle.model_router.specs.Maps.{find}
use Rattle.model_router.specs.Places.{nth}
use Rattle.model_router.specs.Drops.{count_drop}
use Rattle.model_router.specs.Hellos.{minded}
use Rattle.model_router.proofs.MapLemmas.{find-put}
use Rattle.model_router.proofs.StrangerLemmas.{strange-lsp, strange-snp}
use Rattle.model_router.specs.Events.{Envelope, Message, Refused, PointHelloHeard, LanHelloHeard, LspHeard, SnpHeard, Event, Second, Take, Pull, Metric, Overload, Prefix}
use Rattle.model_router.specs.Steps.{step}
use Rattle.model_router.specs.Hearings.{heard_in, says}
use Rattle.model_router.specs.Flooding.{Covers, KeepsBoth, Stands, IsKept}
use Rattle.model_router.specs.ReplyLaws.{IsHeld}
use Rattle.model_router.specs.AdjacencyLaws.{is_point, NamesMe, IsBond, Bond, no_bond, bond_at, Tie, tie_at, Minds, Bonds, Same, Ends, Hears, Learns, Meets, IsGreeting}
use Rattle.model_router.proofs.BookLemmas.{test, same-or}
use Rattle.model_router.proofs.StepLemmas.{step-keeps}
use Rattle.model_router.proofs.StepWays.{step-course}
use Rattle.model_router.proofs.RisingLemmas.{course-rises}
use Rattle.model_router.proofs.TouchSteps.{step-touch}
use Rattle.model_router.proofs.BondLemmas.{step-stays, step-bonds}
use Rattle.model_router.proofs.StandingLemmas.{stands-here, stands-there}
use Rattle.model_network.specs.Networks.{Datagram}
use Rattle.model_network.specs.Ports.{Port, name_of, In, Hails, Reason, Hellos}
use Rattle.model_network.specs.Speakers.{IsLegible, NotLan}
use Rattle.model_network.specs.Links.{IsSound, IsSent, IsStanding, EndHolds}
use Rattle.model_network.proofs.InLemmas.{in-split}
use Rattle.model_network.proofs.ChangeLemmas.{if-yes, self}
use Rattle.model_network.proofs.PortLemmas.{Own, no-bond, keeps-boot, hellos-more, hellos-own, hellos-ended, hellos-minds}
use Rattle.model_network.proofs.ReadLemmas.{Reads, said-later}

-- a message is what the other end sent on the link, in its present boot or before
pub record Carried (f : Port) (b : Router) (k : ℕ) (ds : List Datagram) (m : Message) : Type 0 where
  pub datagram : Datagram
  pub was_sent : In datagram ds
  pub sender : datagram.sender ≡ f.router
  pub on : datagram.link ≡ k
  pub reads : Reads datagram m

-- what a router posts after a step
pub record Posts (e : Port) (t : Router) (k : ℕ) (more : List Datagram) : Type 0 where
  pub sender : (d : Datagram) → In d more → d.sender ≡ e.router
  pub boot : (d : Datagram) → In d more → d.boot ≡ t.boot
  pub system : (d : Datagram) → In d more → d.config.system ≡ t.config.system
  pub held : (d : Datagram) → In d more → IsHeld t d.says
  pub greets : (d : Datagram) → In d more → d.link ≡ k → IsGreeting t e.place d.says
  pub legible : (d : Datagram) → In d more → d.link ≡ k → IsLegible d
  pub point : (d : Datagram) → In d more → d.link ≡ k → NotLan d.says

-- ---- a step of an end, seen from itself

same-number : (m n : ℕ) → ◌≡◌ {A = Option ℕ} (Some m) (Some n) → m ≡ n
same-number m n e = cc

-- what a step hears there is at most what the other end holds, or it is dropped: where the end keeps the other's present boot it takes
-- no LSP or SNP of another
module _ (given : Given) (e : Port) (a : Router) (f : Port) (b : Router) (k : ℕ) (ds : List Datagram) (l : Level) (id : ℕ) (point : is_point (nth a.circuits e.place) ≡ true) (boot : (tie_at a e.place).boot ≡ Some b.boot) (sent : IsSent f b k ds) (kept : IsKept b l id) where
  abbrev Bounds : Event → ℕ → Type 0
  Bounds event rank = (rank ≤ rank_at (book_of b l) id) ⊎ ((step given a event).router ≡ record a { drops = count_drop a.drops NoAdjacency })

  in-present : (m : Message) (c : Carried f b k ds m) → c.datagram.boot ≡ b.boot → says m l id ≤ rank_at (book_of b l) id
  in-present m c same = c.reads.within b l id (sent.held c.datagram c.was_sent c.sender same) kept

  other-boot : (from : Envelope) → from.boot ≢ b.boot → (tie_at a e.place).boot ≢ Some from.boot
  other-boot from n q = n (same-number from.boot b.boot (sym q ∙ boot))

  message-bounds : (m : Message) → Carried f b k ds m → Bounds (Take e.place m) (says m l id)
  message-bounds (Refused cause) c = inl zero-le
  message-bounds (PointHelloHeard h) c = inl zero-le
  message-bounds (LanHelloHeard m h) c = inl zero-le
  message-bounds (LspHeard m from h) c = test (λ t. eqb from.boot b.boot ≡ t → Bounds (Take e.place (LspHeard m from h)) (says (LspHeard m from h) l id)) (eqb from.boot b.boot)
      (λ _ y. let same : from.boot ≡ b.boot = grind (arith, nat_tests, y) in inl (in-present (LspHeard m from h) c (sym (c.reads.lsp m from h refl) ∙ same)))
      (λ _ n. inr (strange-lsp given a e.place m from h point (other-boot from (λ q. grind (arith, nat_tests, n, q))))) refl
  message-bounds (SnpHeard m from source range entries) c = test (λ t. eqb from.boot b.boot ≡ t → Bounds (Take e.place (SnpHeard m from source range entries)) (says (SnpHeard m from source range entries) l id)) (eqb from.boot b.boot)
      (λ _ y. let same : from.boot ≡ b.boot = grind (arith, nat_tests, y) in inl (in-present (SnpHeard m from source range entries) c (sym (c.reads.snp m from source range entries refl) ∙ same)))
      (λ _ n. inr (strange-snp given a e.place m from source range entries point (other-boot from (λ q. grind (arith, nat_tests, n, q))))) refl

  pub heard-bounds : (event : Event) → ((m : Message) → event ≡ Take e.place m → Carried f b k ds m) → Bounds event (heard_in event l e.place id)
  heard-bounds Second comes = inl zero-le
  heard-bounds (Take p m) comes = same-or (λ t. Bounds (Take p m) (if t then says m l id else 0)) p e.place
      (λ same. subst (λ (n : ℕ). Bounds (Take n m) (says m l id)) (sym same) (message-bounds m (comes m (ap (λ (n : ℕ). Take n m) same))))
      (λ _. inl zero-le)
  heard-bounds (Pull p) comes = inl zero-le
  heard-bounds (Metric p metric) comes = inl zero-le
  heard-bounds (Overload on) comes = inl zero-le
  heard-bounds (Prefix prefix metric) comes = inl zero-le

-- what isn't let go after a step wasn't before it
kept-before : (heard : Level → ℕ → ℕ → ℕ) (r t : Router) → KeepsBoth heard r t → (l : Level) (id : ℕ) → IsKept t l id → IsKept r l id
kept-before heard r t k l id g = test (λ x. lets_go (level_of r l).gone id ≡ x → IsKept r l id) (lets_go (level_of r l).gone id)
    (λ _ e. absurd (let now = (k.on l).grows id e in cc)) (λ _ e. e) refl

covers-less : (n : ℕ) (b : Router) (l : Level) (id place : ℕ) → Covers 0 (book_of b l) id place → Covers n (book_of b l) id place
covers-less n b l id place c o k = ⊎_elim (λ f. inl f) (λ z. inr (le_trans z zero-le)) (c o k)

sound-step : (given : Given) (e : Port) (a : Router) (event : Event) → IsSound e a → IsSound e (step given a event).router
sound-step given e a event s =
    let t = (step given a event).router in
    let touch = step-touch given a event s.touch in
    record {
      system = (step-stays given a event).system ∙ s.system;
      touch = touch;
      sorted = record { on = λ l. course-rises _ _ _ ((step-course given a event).on l) (s.sorted.on l) };
      point = sym (touch.points level.One e.place) ∙ ap (λ (n : ℕ). has n e.place) ((step-keeps given a event).on level.One).floods.kinds ∙ s.touch.points level.One e.place ∙ s.point;
    }

both-same : (n : ℕ × ℕ) (x y : ℕ) → n.0 ≡ x → n.1 ≡ y → ◌≡◌ {A = Option (ℕ × ℕ)} (Some n) (Some (x, y))
both-same n x y a b = rw (← a, ← b) refl

-- a name that is one's own
own-name : (r : Router) (place : ℕ) (o : Option (ℕ × ℕ)) → NamesMe r place o → o ≢ None → o ≡ Some (r.config.system, extended_of r.boot place)
own-name r place None d n = absurd (n refl)
own-name r place (Some names) d n = both-same names r.config.system (extended_of r.boot place) d.0 d.1

-- what an end learns of a hello that it takes there
record Heard (f : Port) (b : Router) (k : ℕ) (ds : List Datagram) (h : Hello) (s : Handshake) (c : Carried f b k ds (PointHelloHeard h)) : Type 0 where
  says : c.datagram.says ≡ PointHello s.state s.extended s.names
  source : h.source ≡ f.system
  boot : h.boot ≡ c.datagram.boot
  past : c.datagram.boot ≤ b.boot
  hails : Hails f k c.datagram s.state s.extended s.names
  name : ◌≡◌ {A = Option (ℕ × ℕ)} (Some (h.source, s.extended)) (Some (name_of f c.datagram.boot))

hears : (e : Port) (a : Router) (f : Port) (b : Router) (k : ℕ) (ds : List Datagram) (h : Hello) (s : Handshake) → EndHolds f b e a k ds → (c : Carried f b k ds (PointHelloHeard h)) → h.handshake ≡ Some s → Heard f b k ds h s c
hears e a f b k ds h s far c shakes =
    let said = c.reads.greets h s refl shakes in
    let hail : Hails f k c.datagram s.state s.extended s.names = record { sender = c.sender; on = c.on; says = said.0 } in
    let own = (far.hellos.named c.datagram s.state s.extended s.names c.was_sent hail).own in
    let source = said.1 ∙ far.sent.system c.datagram c.was_sent c.sender in
    record {
      says = said.0;
      source = source;
      boot = said.2;
      past = far.sent.boot c.datagram c.was_sent c.sender;
      hails = hail;
      name = ap (λ (n : ℕ). Some (n, s.extended)) source ∙ ap (λ (n : ℕ). Some (f.system, n)) own;
    }

minded-find : (boots : List (ℕ × ℕ)) (h : Hello) → find (minded boots h) h.source ≡ Some h.boot
minded-find boots h = find-put boots h.source h.boot h.source ∙ if-yes _ _ _ (self h.source)

some-name : (m n : ℕ × ℕ) → ◌≡◌ {A = Option (ℕ × ℕ)} (Some m) (Some n) → m ≡ n
some-name m n e = cc

-- what a hello leaves remembered
recalls-of : (f : Port) (h : Hello) (old new : Tie) (boot : ℕ) → Minds old h new → h.source ≡ f.system → h.boot ≡ boot → find new.boots f.system ≡ Some boot
recalls-of f h old new boot m source same = ap (λ (bs : List (ℕ × ℕ)). find bs f.system) m.boots ∙ ap (λ (n : ℕ). find (minded old.boots h) n) (sym source) ∙ minded-find old.boots h ∙ ap (λ (n : ℕ). Some n) same

least-of : (f : Port) (h : Hello) (old new : Tie) (boot : ℕ) → Minds old h new → h.source ≡ f.system → h.boot ≡ boot → (was : ℕ) → find old.boots f.system ≡ Some was → was ≤ boot
least-of f h old new boot m source same was e = le_trans (m.least was (ap (λ (n : ℕ). find old.boots n) source ∙ e)) (le_of_eq same)

-- the hellos after the step, before it posts
hellos-bonds : (e : Port) (a : Router) (f : Port) (b : Router) (k : ℕ) (ds : List Datagram) (event : Event) (t : Router)
    → ((m : Message) → event ≡ Take e.place m → Carried f b k ds m) → EndHolds e a f b k ds → EndHolds f b e a k ds
    → Bonds a event t e.place → Hellos e a.boot (tie_at t e.place) f b.boot k ds
hellos-bonds e a f b k ds event t comes near far (Same q) = subst (λ (m : Tie). Hellos e a.boot m f b.boot k ds) (sym q) near.hellos
hellos-bonds e a f b k ds event t comes near far (Ends q) = subst (λ (m : Tie). Hellos e a.boot m f b.boot k ds) (sym q) (hellos-ended e a.boot (tie_at a e.place) f b.boot k ds near.hellos)
hellos-bonds e a f b k ds event t comes near far (Hears l h takes minds same boot) =
    let c = comes (LanHelloHeard l h) takes in absurd (c.reads.lan l h refl (far.sent.point c.datagram c.was_sent c.sender c.on))
hellos-bonds e a f b k ds event t comes near far (Learns h s takes shakes minds none) =
    let c = comes (PointHelloHeard h) takes in
    let x = hears e a f b k ds h s far c shakes in
    let nobody : (n : ℕ × ℕ) → (bond_at t e.place).names ≡ Some n → ⊥ = λ n q. let clash : no_bond.names ≡ Some n = sym (ap (λ (m : Bond). m.names) none) ∙ q in absurd (cc) in
    hellos-minds e a.boot (tie_at a e.place) (tie_at t e.place) c.datagram.boot f b.boot k ds x.past (record {
      bond = subst IsBond (sym none) no-bond;
      recalls = recalls-of f h (tie_at a e.place) (tie_at t e.place) c.datagram.boot minds x.source x.boot;
      least = least-of f h (tie_at a e.place) (tie_at t e.place) c.datagram.boot minds x.source x.boot;
      names = λ n q. absurd (nobody n q);
      kept = λ n q. absurd (nobody n q);
    }) (λ up. absurd (let clash : no_bond.state ≡ Up = sym (ap (λ (m : Bond). m.state) none) ∙ up in cc)) near.hellos
hellos-bonds e a f b k ds event t comes near far (Meets h s state takes shakes drop up heard minds boot q covered) =
    hellos-minds e a.boot (tie_at a e.place) (tie_at t e.place) c.datagram.boot f b.boot k ds x.past (record {
      bond = subst IsBond (sym q) (record { down = λ d. absurd (up d); names = λ d. absurd (cc) });
      recalls = recalls-of f h (tie_at a e.place) (tie_at t e.place) c.datagram.boot minds x.source x.boot;
      least = least-of f h (tie_at a e.place) (tie_at t e.place) c.datagram.boot minds x.source x.boot;
      names = λ n z. some-name n (name_of f c.datagram.boot) (sym z ∙ name_is);
      kept = λ n z. boot ∙ ap (λ (i : ℕ). Some i) x.boot;
    }) (λ z. why (sym (ap (λ (m : Bond). m.state) q) ∙ z)) near.hellos
  where
    c : Carried f b k ds (PointHelloHeard h)
    c = comes (PointHelloHeard h) takes

    x : Heard f b k ds h s c
    x = hears e a f b k ds h s far c shakes

    name_is : (bond_at t e.place).names ≡ Some (name_of f c.datagram.boot)
    name_is = ap (λ (m : Bond). m.names) q ∙ x.name

    why : state ≡ Up → Reason e a.boot (tie_at t e.place) f k ds
    why is_up =
        let some : s.names ≢ None = λ n. heard is_up ((far.hellos.named c.datagram s.state s.extended s.names c.was_sent x.hails).bond.names n) in
        let mine : s.names ≡ Some (name_of e a.boot) = own-name a e.place s.names drop some ∙ ap (λ (n : ℕ). Some (n, extended_of a.boot e.place)) near.sound.system in
        record {
          hello = c.datagram;
          state = s.state;
          extended = s.extended;
          was_sent = c.was_sent;
          hails = record { sender = c.sender; on = c.on; says = x.says ∙ ap (λ (o : Option (ℕ × ℕ)). PointHello s.state s.extended o) mine };
          keeps = name_is;
        }

standing-step : (given : Given) (e : Port) (a : Router) (f : Port) (b : Router) (k : ℕ) (ds : List Datagram) (event : Event)
    → ((m : Message) → event ≡ Take e.place m → Carried f b k ds m) → EndHolds e a f b k ds → IsSent f b k ds
    → IsStanding e (step given a event).router f b
standing-step given e a f b k ds event comes near sent = record { stands = λ names l id kept_t kept_b. by-bonds names l id kept_t kept_b (step-bonds given a event e.place) }
  where
    t : Router
    t = (step given a event).router

    old : (bond_at a e.place).names ≡ Some (name_of f b.boot) → (l : Level) (id : ℕ) → IsKept t l id → IsKept b l id → Stands t e.place b l id
    old names l id kept_t kept_b =
        let before = near.standing.stands names l id (kept-before (heard_in event) a t (step-keeps given a event) l id kept_t) kept_b in
        ⊎_elim (λ within. stands-here given a b event l e.place id within before)
        (λ dropped. subst (λ (r : Router). Stands r e.place b l id) (sym dropped) before)
        (heard-bounds given e a f b k ds l id near.sound.point (keeps-boot e a.boot (tie_at a e.place) f b.boot k ds near.hellos b.boot names) sent kept_b event comes)

    by-bonds : (bond_at t e.place).names ≡ Some (name_of f b.boot) → (l : Level) (id : ℕ) → IsKept t l id → IsKept b l id → Bonds a event t e.place → Stands t e.place b l id
    by-bonds names l id kept_t kept_b (Same q) = old (sym (ap (λ (m : Tie). m.bond.names) q) ∙ names) l id kept_t kept_b
    by-bonds names l id kept_t kept_b (Ends q) = absurd (let none : no_bond.names ≡ Some (name_of f b.boot) = sym (ap (λ (m : Tie). m.bond.names) q) ∙ names in cc)
    by-bonds names l id kept_t kept_b (Hears m h takes minds same boot) = old (sym (ap (λ (x : Bond). x.names) same) ∙ names) l id kept_t kept_b
    by-bonds names l id kept_t kept_b (Learns h s takes shakes minds none) = absurd (let nobody : no_bond.names ≡ Some (name_of f b.boot) = sym (ap (λ (m : Bond). m.names) none) ∙ names in cc)
    by-bonds names l id kept_t kept_b (Meets h s state takes shakes drop up heard minds boot q (inl was)) = old (was ∙ sym (ap (λ (m : Bond). m.names) q) ∙ names) l id kept_t kept_b
    by-bonds names l id kept_t kept_b (Meets h s state takes shakes drop up heard minds boot q (inr covered)) = covers-less _ t l id e.place (covered l id)

-- what an end posts is its own
own-posts : (e : Port) (t : Router) (x k : ℕ) (more : List Datagram) → t.boot ≡ x → Posts e t k more → Own e x (tie_at t e.place) k more
own-posts e t x k more same p = record {
  boot = λ d i. p.boot d i ∙ same;
  sender = p.sender;
  bond = λ d s q n i hail. (subst (IsGreeting t e.place) hail.says (p.greets d i hail.on)).0;
  own = λ d s q n i hail. (subst (IsGreeting t e.place) hail.says (p.greets d i hail.on)).1 ∙ ap (λ (n : ℕ). extended_of n e.place) same;
}

sent-step : (given : Given) (e : Port) (a : Router) (event : Event) (k : ℕ) (ds more : List Datagram) → IsSound e a → Posts e (step given a event).router k more → IsSent e a k ds → IsSent e (step given a event).router k (ds ++ more)
sent-step given e a event k ds more sound p s =
    let t = (step given a event).router in
    let stays = step-stays given a event in
    record {
      system = λ d i q. ⊎_elim (λ (o : In d ds). s.system d o q) (λ (o : In d more). p.system d o ∙ stays.system ∙ sound.system) (in-split d ds more i);
      boot = λ d i q. ⊎_elim (λ (o : In d ds). le_trans (s.boot d o q) (le_of_eq (sym stays.boot))) (λ (o : In d more). le_of_eq (p.boot d o)) (in-split d ds more i);
      held = λ d i q x. ⊎_elim (λ (o : In d ds). said-later (heard_in event) a t (step-keeps given a event) d.says (s.held d o q (x ∙ stays.boot))) (λ (o : In d more). p.held d o) (in-split d ds more i);
      legible = λ d i q x. ⊎_elim (λ (o : In d ds). s.legible d o q x) (λ (o : In d more). p.legible d o x) (in-split d ds more i);
      point = λ d i q x. ⊎_elim (λ (o : In d ds). s.point d o q x) (λ (o : In d more). p.point d o x) (in-split d ds more i);
    }

-- ---- an end steps

pub step-near : (given : Given) (e : Port) (a : Router) (f : Port) (b : Router) (k : ℕ) (ds more : List Datagram) (event : Event)
    → ((m : Message) → event ≡ Take e.place m → Carried f b k ds m) → Posts e (step given a event).router k more
    → EndHolds e a f b k ds → EndHolds f b e a k ds → EndHolds e (step given a event).router f b k (ds ++ more)
step-near given e a f b k ds more event comes posts near far =
    let t = (step given a event).router in
    let same = (step-stays given a event).boot in
    record {
      sound = sound-step given e a event near.sound;
      hellos = subst (λ (x : ℕ). Hellos e x (tie_at t e.place) f b.boot k (ds ++ more)) (sym same)
          (hellos-own e a.boot (tie_at t e.place) f b.boot k ds more (own-posts e t a.boot k more same posts)
          (hellos-bonds e a f b k ds event t comes near far (step-bonds given a event e.place)));
      sent = sent-step given e a event k ds more near.sound posts near.sent;
      standing = standing-step given e a f b k ds event comes near far.sent;
    }

sent-more : (e : Port) (a : Router) (k : ℕ) (ds more : List Datagram) → ((d : Datagram) → In d more → d.sender ≢ e.router) → IsSent e a k ds → IsSent e a k (ds ++ more)
sent-more e a k ds more foreign s = record {
  system = λ d i q. ⊎_elim (λ (o : In d ds). s.system d o q) (λ (o : In d more). absurd (foreign d o q)) (in-split d ds more i);
  boot = λ d i q. ⊎_elim (λ (o : In d ds). s.boot d o q) (λ (o : In d more). absurd (foreign d o q)) (in-split d ds more i);
  held = λ d i q x. ⊎_elim (λ (o : In d ds). s.held d o q x) (λ (o : In d more). absurd (foreign d o q)) (in-split d ds more i);
  legible = λ d i q x. ⊎_elim (λ (o : In d ds). s.legible d o q x) (λ (o : In d more). absurd (foreign d o q)) (in-split d ds more i);
  point = λ d i q x. ⊎_elim (λ (o : In d ds). s.point d o q x) (λ (o : In d more). absurd (foreign d o q)) (in-split d ds more i);
}

-- the other end's step, seen from an end
pub step-far : (given : Given) (e : Port) (a : Router) (f : Port) (b : Router) (k : ℕ) (ds more : List Datagram) (event : Event)
    → ((d : Datagram) → In d more → d.sender ≢ f.router)
    → EndHolds f b e a k ds → EndHolds f b e (step given a event).router k (ds ++ more)
step-far given e a f b k ds more event foreign far =
    let t = (step given a event).router in
    let same = (step-stays given a event).boot in
    record {
      sound = far.sound;
      hellos = hellos-more f b.boot (tie_at b f.place) e t.boot k ds more foreign (subst (λ (x : ℕ). Hellos f b.boot (tie_at b f.place) e x k ds) (sym same) far.hellos);
      sent = sent-more f b k ds more foreign far.sent;
      standing = record {
        stands = λ names l id kept_b kept_t. stands-there given b a event l f.place id kept_t
            (far.standing.stands (names ∙ ap (λ (x : ℕ). Some (name_of e x)) same) l id kept_b (kept-before (heard_in event) a t (step-keeps given a event) l id kept_t));
      };
    }

-- a router that is no end steps
pub others-step : (e : Port) (a : Router) (f : Port) (b : Router) (k : ℕ) (ds more : List Datagram) → ((d : Datagram) → In d more → d.sender ≢ e.router) → EndHolds e a f b k ds → EndHolds e a f b k (ds ++ more)
others-step e a f b k ds more foreign h = record {
  sound = h.sound;
  hellos = hellos-more e a.boot (tie_at a e.place) f b.boot k ds more foreign h.hellos;
  sent = sent-more e a k ds more foreign h.sent;
  standing = h.standing;
}
