-- CSNPs tell their sender's keys while these stand, so who is swept by another holds the same live LSPs.
use Rattle.std.proofs.Common.{◌≡◌, ℕ, ◌+◌, ◌-◌, ◌/◌, ◌^◌, ◌<◌, ◌≤◌, ◌==◌, nat_le, ◌&&◌, ◌||◌, not, is_some, is_none, eqb, Bool, true, false, inl, inr, ⊎_elim, List, [], ◌∷◌, ◌++◌, map, Option, Some, None, if◌then◌else◌, refl, sym, ap, ◌∙◌, subst, arith, le_refl, le_trans, le_of_eq}
use Rattle.std.proofs.lemmas.Bool.{cases_lt}
use Rattle.std.proofs.lemmas.Bool.Decides.{nat_tests}
use Rattle.std.specs.List.{AllByRecursion}
use Rattle.isis_base.specs.declared.level.Level.{Level}
use Rattle.isis_base.specs.declared.level.Level.TheVariants as level
use Rattle.model_router.specs.Both.{at}
use Rattle.model_router.specs.Places.{nth, with_nth}
use Rattle.model_router.specs.Ranks.{is_live}
use Rattle.model_router.specs.Cells.{Cell}
use Rattle.model_router.specs.Books.{cell_at, rank_of, rank_at, checksum_of}
use Rattle.model_router.specs.SnpTable.{SnpEntry, snp_case, sets_flag, lists, is_missed}
use Rattle.model_router.specs.Routers.{Circuit, LevelState, Router, level_of, book_of}
use Rattle.model_router.specs.Datagrams.{Sent, PointHello, LanHello, Lsp, Csnp, Psnp}
use Rattle.model_router.specs.Givens.{Given}
use Rattle.model_router.specs.Events.{Envelope, Message, Refused, PointHelloHeard, LanHelloHeard, LspHeard, SnpHeard, Event, Reply, Done, Dropped, Send}
use Rattle.model_router.specs.Steps.{step}
use Rattle.model_router.specs.Good.{IsGood, IsGoodRouter}
use Rattle.model_router.specs.Deeds.{Content}
use Rattle.model_router.specs.Hearings.{hearing}
use Rattle.model_router.specs.ContentLaws.{SameKey, held_content}
use Rattle.model_router.specs.ReplyLaws.{AllSent, Entry, TellsKeys, IsTold}
use Rattle.model_router.specs.SweepLaws.{AreClean, ListsKey}
use Rattle.model_router.specs.Receiving.{scene_of, drop_of}
use Rattle.model_router.specs.Takes.{Scene, whose_of}
use Rattle.model_router.specs.declared.whose.Whose.{Whose}
use Rattle.model_router.specs.declared.whose.Whose.TheVariants as whose
use Rattle.model_router.specs.Maps.{find}
use Rattle.model_router.specs.AdjacencyLaws.{place_of}
use Rattle.model_router.proofs.BookLemmas.{test}
use Rattle.model_router.proofs.StepWays.{step-course}
use Rattle.model_router.proofs.TellLemmas.{course-tells}
use Rattle.model_router.proofs.BondLemmas.{step-stays}
use Rattle.model_router.proofs.KeyLemmas.{step-told}
use Rattle.model_router.proofs.SweepLemmas.{clean-held, clean-listed}
use Rattle.model_datagram.specs.Lsps.{given_octets}
use Rattle.model_datagram.specs.Reading.{read}
use Rattle.model_datagram.specs.Said.{envelope, said}
use Rattle.model_network.specs.Networks.{Datagram, octets_of, Taking, Network, restarted}
use Rattle.model_network.specs.Takings.{would_flag, would_flag_any, misses_any, would_flag_range, taking_of, is_clean, heard_range, ranges_of}
use Rattle.model_network.specs.Runs.{read_on, taking, post, posts, posted, changes_of, Happening, is_injection, apply}
use Rattle.model_network.specs.Speakers.{IsReading, IsLegible, AreSpeaking}
use Rattle.model_network.specs.Ports.{In}
use Rattle.model_network.proofs.InLemmas.{in-split}
use Rattle.model_network.proofs.ChangeLemmas.{nth-set, nth-other, some-same, Brings, Nothing, Ranges, Change, Still, Moved, Restarted, apply-change}
use Rattle.model_network.specs.LiveViews.{live_rank, live_at}
use Rattle.model_network.specs.Origins.{IsSilent, IsPlain, HaveOrigins, HoldsNothing}
use Rattle.model_network.specs.Sweeps.{IsAt, IsPast, IsTrue, AreTrue, IsAgreed, AreAgreed, IsCovered, IsSweptBy}

-- ---- a router later

-- boots rise; in one boot changes rise; and while both stand, keys do
record Onward (l : Level) (r s : Router) : Type 0 where
  boot : r.boot ≤ s.boot
  count : r.boot ≡ s.boot → (book_of r l).changes ≤ (book_of s l).changes
  same : r.boot ≡ s.boot → (book_of r l).changes ≡ (book_of s l).changes → (book_of s l).changes < 2 ^ 64 - 1 → (id : ℕ) → SameKey (cell_at (book_of r l) id) (cell_at (book_of s l) id)

key-refl : (o : Option Cell) → SameKey o o
key-refl o = record { rank = refl; content = λ live. refl }

onward-refl : (l : Level) (r : Router) → Onward l r r
onward-refl l r = record { boot = le_refl _; count = λ e. le_refl _; same = λ e f b id. key-refl _ }

step-onward : (given : Given) (l : Level) (r : Router) (event : Event) → Onward l r (step given r event).router
step-onward given l r event =
    let t = (step given r event).router in
    let tells = course-tells (hearing given r event l) (level_of r l) (level_of t l) ((step-course given r event).on l) in
    record { boot = le_of_eq (sym (step-stays given r event).boot); count = λ e. tells.counts; same = λ e k below id. tells.same (sym k) below id }

up-one : (n : ℕ) → n ≤ n + 1
up-one n = omega arith

not-up : (n : ℕ) → n ≡ n + 1 → ⊥
not-up n e = omega (arith, e)

restart-onward : (l : Level) (r : Router) → Onward l r (restarted r)
restart-onward l r = record { boot = up-one r.boot; count = λ e. absurd (not-up r.boot e); same = λ e k below id. absurd (not-up r.boot e) }

between : (a b c : ℕ) → a ≤ b → b ≤ c → a ≡ c → (a ≡ b) × (b ≡ c)
between a b c h k e = (omega (arith, h, k, e), omega (arith, h, k, e))

-- a moment that was stays past, and where it still is, it was
past-later : (l : Level) (r s : Router) (boot changes : ℕ) → Onward l r s → IsPast r l boot changes → IsPast s l boot changes
past-later l r s boot changes o p = record {
  boot = le_trans p.boot o.boot;
  changes = λ e. let b = between _ _ _ p.boot o.boot e in le_trans (p.changes b.0) (o.count b.1);
}

at-before : (l : Level) (r s : Router) (boot changes : ℕ) → Onward l r s → IsPast r l boot changes → IsAt s l boot changes → IsAt r l boot changes
at-before l r s boot changes o p a =
    let b = between _ _ _ p.boot o.boot (sym a.boot) in
    let c = between _ _ _ (p.changes b.0) (o.count b.1) (sym a.changes) in
    record { boot = sym b.0; changes = sym c.0; below = a.below }

same-keys : (l : Level) (r s : Router) (boot changes : ℕ) → Onward l r s → IsAt r l boot changes → IsAt s l boot changes → (id : ℕ) → SameKey (cell_at (book_of r l) id) (cell_at (book_of s l) id)
same-keys l r s boot changes o a b id = o.same (a.boot ∙ sym b.boot) (a.changes ∙ sym b.changes) (subst (λ (n : ℕ). n < 2 ^ 64 - 1) (sym b.changes) b.below) id

-- ---- keys that are told

-- what is held with the same content has the same checksum
same-checksum : (old new : Option Cell) → held_content new ≡ held_content old → checksum_of old ≡ checksum_of new
same-checksum None None e = refl
same-checksum None (Some cell) e = absurd (cc)
same-checksum (Some cell) None e = absurd (cc)
same-checksum (Some a) (Some b) e = ap (λ (c : Content). c.checksum) (sym (some-same _ _ e))

tells-later : (l : Level) (r s : Router) (first last : ℕ) (entries : List SnpEntry) → ((id : ℕ) → SameKey (cell_at (book_of r l) id) (cell_at (book_of s l) id)) → TellsKeys r l first last entries → TellsKeys s l first last entries
tells-later l r s first last entries same k = record {
  lists = λ id low high some.
      let key = same id in
      let f = k.lists id low high (subst (λ (n : ℕ). 0 < n) key.rank some) in
      let alive = λ (live : is_live (rank_at (book_of s l) id) ≡ true). subst (λ (n : ℕ). is_live n ≡ true) key.rank live in
      record {
        entry = f.entry;
        stands = f.stands;
        id_is = f.id_is;
        rank_is = f.rank_is ∙ sym key.rank;
        checksum_is = λ live. f.checksum_is (alive live) ∙ same-checksum _ _ (key.content live);
        left = λ live. f.left (alive live);
        summed = λ live. f.summed (alive live);
      };
  holds = λ h x. k.holds h x ∙ sym (same h.id).rank;
}

-- ---- where a router is there, it was

record Earlier (l : Level) (net : Network) (j : ℕ) (s : Router) : Type 0 where
  router : Router
  there : nth net.routers j ≡ Some router
  onward : Onward l router s

set-earlier : (l : Level) (net : Network) (i j : ℕ) (r t s : Router) → nth net.routers i ≡ Some r → Onward l r t → nth (with_nth net.routers i t) j ≡ Some s → Earlier l net j s
set-earlier l net i j r t s q o e =
    test (λ b. eqb i j ≡ b → Earlier l net j s) (eqb i j)
    (λ _ y. let same : i ≡ j = grind (arith, nat_tests) in
    let here : t ≡ s = some-same t s (sym (nth-set net.routers i r t q) ∙ ap (λ (n : ℕ). nth (with_nth net.routers i t) n) same ∙ e) in
    record { router = r; there = ap (λ (n : ℕ). nth net.routers n) (sym same) ∙ q; onward = subst (λ (x : Router). Onward l r x) here o })
    (λ _ n. record { router = s; there = sym (nth-other net.routers i t j (λ x. grind (arith, nat_tests))) ∙ e; onward = onward-refl l s }) refl

change-earlier : (given : Given) (l : Level) (net new : Network) (j : ℕ) (s : Router) → Change given net new → nth new.routers j ≡ Some s → Earlier l net j s
change-earlier given l net new j s (Still _) e = record { router = s; there = e; onward = onward-refl l s }
change-earlier given l net new j s (Moved i link event r ts m _) e = set-earlier l net i j r (step given r event).router s m.found (step-onward given l r event) e
change-earlier given l net new j s (Restarted i r q) e = set-earlier l net i j r (restarted r) s q (restart-onward l r) e

-- ---- what was sent stays true

true-later : (given : Given) (net new : Network) (d : Datagram) → Change given net new → IsTrue net d → IsTrue new d
true-later given net new d c t = record {
  past = λ s l e. let b = change-earlier given l net new d.sender s c e in past-later l b.router s d.boot (at d.changes l) b.onward (t.past b.router l b.there);
  tells = λ s l first last entries e says here.
      let b = change-earlier given l net new d.sender s c e in
      let was = at-before l b.router s d.boot (at d.changes l) b.onward (t.past b.router l b.there) here in
      tells-later l b.router s first last entries (same-keys l b.router s d.boot (at d.changes l) b.onward was here) (t.tells b.router l first last entries b.there says was);
}

count-of : (t : Router) (l : Level) → at (changes_of t) l ≡ (book_of t l).changes
count-of t level.One = refl
count-of t level.Two = refl

-- what a router sends
record IsFresh (i : ℕ) (t : Router) (d : Datagram) : Type 0 where
  sender : d.sender ≡ i
  boot : d.boot ≡ t.boot
  changes : d.changes ≡ changes_of t
  told : IsTold t d.says

fresh-out : (i link : ℕ) (t : Router) (place : ℕ) (c : Circuit) (out : List Sent) → AllByRecursion (IsTold t) out → (d : Datagram) → In d (map (post i link t place c) out) → IsFresh i t d
fresh-out i link t place c [] h d x = absurd x
fresh-out i link t place c (s ∷ out) h d (inl e) = subst (IsFresh i t) (sym e) (record { sender = refl; boot = refl; changes = refl; told = h.0 })
fresh-out i link t place c (s ∷ out) h d (inr x) = fresh-out i link t place c out h.1 d x

fresh-on : (i link : ℕ) (t : Router) (place : ℕ) (c : Option Circuit) (out : List Sent) → AllByRecursion (IsTold t) out → (d : Datagram) → In d (posts i link t place c out) → IsFresh i t d
fresh-on i link t place None out h d x = absurd x
fresh-on i link t place (Some c) out h d x = fresh-out i link t place c out h d x

fresh-each : (i : ℕ) (link : Option ℕ) (t : Router) (place : ℕ) (reply : Reply) → AllSent (IsTold t) reply → (d : Datagram) → In d (posted i link t place reply) → IsFresh i t d
fresh-each i None t place reply h d x = absurd x
fresh-each i (Some link) t place Done h d x = absurd x
fresh-each i (Some link) t place (Dropped cause) h d x = absurd x
fresh-each i (Some link) t place (Send out) h d x = fresh-on i link t place (nth t.circuits place) out h d x

told-keys : (t : Router) (s : Sent) (l : Level) (first last : ℕ) (entries : List SnpEntry) → s ≡ Csnp l first last entries → IsTold t s → TellsKeys t l first last entries
told-keys t s l first last entries e h = from (subst (IsTold t) e h)
  where
    from : IsTold t (Csnp l first last entries) → TellsKeys t l first last entries
    from k = k

fresh-true : (net : Network) (i : ℕ) (t : Router) (d : Datagram) → nth net.routers i ≡ Some t → IsFresh i t d → IsTrue net d
fresh-true net i t d at_t f = record {
  past = λ r l e.
      let same : t ≡ r = some-same t r (sym at_t ∙ ap (λ (n : ℕ). nth net.routers n) (sym f.sender) ∙ e) in
      subst (λ (x : Router). IsPast x l d.boot (at d.changes l)) same
      (record { boot = le_of_eq f.boot; changes = λ _. le_of_eq (ap (λ (b : _). at b l) f.changes ∙ count-of t l) });
  tells = λ r l first last entries e says here.
      let same : t ≡ r = some-same t r (sym at_t ∙ ap (λ (n : ℕ). nth net.routers n) (sym f.sender) ∙ e) in
      subst (λ (x : Router). TellsKeys x l first last entries) same (told-keys t d.says l first last entries says f.told);
}

module _ (leaks : Router → Level → List (ℕ × ℕ)) (attached : Router → Bool) where
  abbrev octets-given : Given
  octets-given = given_octets leaks attached

  change-true : (net new : Network) → AreSpeaking net → Change octets-given net new → AreTrue net → AreTrue new
  change-true net new speak (Still _) t = t
  change-true net new speak (Moved i link event r ts m b) t = record {
    each = λ d x. ⊎_elim
        (λ (o : In d net.datagrams). true-later octets-given net new d (Moved i link event r ts m b) (t.each d o))
        (λ (o : In d (posted i link (step octets-given r event).router (place_of event) (step octets-given r event).reply)).
        fresh-true new i (step octets-given r event).router d (nth-set net.routers i r (step octets-given r event).router m.found)
        (fresh-each i link (step octets-given r event).router (place_of event) (step octets-given r event).reply
        (step-told octets-given r event (speak i r m.found).sorted (speak i r m.found).good) d o))
        (in-split d net.datagrams _ x);
  }
  change-true net new speak (Restarted i r q) t = record { each = λ d x. true-later octets-given net new d (Restarted i r q) (t.each d x) }

  pub apply-true : (net : Network) (h : Happening) → is_injection h ≡ false → AreSpeaking net → AreTrue net → AreTrue (apply octets-given net h)
  apply-true net h plain speak t = change-true net (apply octets-given net h) speak (apply-change octets-given net h plain) t

no-datagram : (ds : List Datagram) (d : Datagram) → ds ≡ [] → In d ds → ⊥
no-datagram [] d q i = i
no-datagram (x ∷ ds) d q i = cc

pub start-true : (net : Network) → HoldsNothing net → AreTrue net
start-true net n = record { each = λ d x. absurd (no-datagram net.datagrams d n.nothing x) }

-- ---- what was taken stays agreed

same-live : (l : Level) (r s : Router) (id : ℕ) → SameKey (cell_at (book_of r l) id) (cell_at (book_of s l) id) → live_at r l id ≡ live_at s l id
same-live l r s id k = ap live_rank (sym k.rank)

agreed-later : (given : Given) (net new : Network) (t : Taking) → Change given net new → IsAgreed net t → IsAgreed new t
agreed-later given net new t c h = record {
  member = λ s e. let b = change-earlier given t.level net new t.member s c e in past-later t.level b.router s t.boot t.changes b.onward (h.member b.router b.there);
  sender = λ s e. let b = change-earlier given t.level net new t.sender s c e in past-later t.level b.router s t.sent_boot t.sent_changes b.onward (h.sender b.router b.there);
  same = λ a b x y here there id low high.
      let m = change-earlier given t.level net new t.member a c x in
      let d = change-earlier given t.level net new t.sender b c y in
      let was = at-before t.level m.router a t.boot t.changes m.onward (h.member m.router m.there) here in
      let sent = at-before t.level d.router b t.sent_boot t.sent_changes d.onward (h.sender d.router d.there) there in
      sym (same-live t.level m.router a id (same-keys t.level m.router a t.boot t.changes m.onward was here id))
      ∙ h.same m.router d.router m.there d.there was sent id low high
      ∙ same-live t.level d.router b id (same-keys t.level d.router b t.sent_boot t.sent_changes d.onward sent there id);
}

all-later : (given : Given) (net new : Network) (ts : List Taking) → Change given net new → AreAgreed net ts → AreAgreed new ts
all-later given net new [] c a = tt
all-later given net new (t ∷ ts) c a = (agreed-later given net new t c a.0, all-later given net new ts c a.1)

agreed-append : (net : Network) (xs ys : List Taking) → AreAgreed net xs → AreAgreed net ys → AreAgreed net (xs ++ ys)
agreed-append net [] ys a b = b
agreed-append net (x ∷ xs) ys a b = (a.0, agreed-append net xs ys a.1 b)

-- ---- what is taken

same-level : (l m : Level) (a : Envelope) (b : ℕ) (c : Envelope) (d : ℕ) (x y : Option (ℕ × ℕ)) (es fs : List SnpEntry) → SnpHeard l a b x es ≡ SnpHeard m c d y fs → l ≡ m
same-level l m a b c d x y es fs e = cc

same-range : (l m : Level) (a : Envelope) (b : ℕ) (c : Envelope) (d : ℕ) (x y : Option (ℕ × ℕ)) (es fs : List SnpEntry) → SnpHeard l a b x es ≡ SnpHeard m c d y fs → x ≡ y
same-range l m a b c d x y es fs e = cc

same-entries : (l m : Level) (a : Envelope) (b : ℕ) (c : Envelope) (d : ℕ) (x y : Option (ℕ × ℕ)) (es fs : List SnpEntry) → SnpHeard l a b x es ≡ SnpHeard m c d y fs → es ≡ fs
same-entries l m a b c d x y es fs e = cc

-- what a clear datagram is read as, where that is a CSNP
read-csnp : (own : ℕ) (d : Datagram) (s : Sent) → d.says ≡ s → (l : Level) (from : Envelope) (source first last : ℕ) (entries : List SnpEntry)
    → IsReading (SnpHeard l from source (Some (first, last)) entries) (said own d.config d.boot d.place d.circuit s) → d.says ≡ Csnp l first last entries
read-csnp own d s e l from source first last entries (inl q) = absurd (let clash = q.1 in cc)
read-csnp own d (PointHello state extended names) e l from source first last entries (inr q) = absurd (cc)
read-csnp own d (LanHello m lan snpas) e l from source first last entries (inr q) = absurd (cc)
read-csnp own d (Lsp m id cell) e l from source first last entries (inr q) = absurd (cc)
read-csnp own d (Csnp m start end others) e l from source first last entries (inr q) = e ∙ same-csnp q
  where
    same-csnp : SnpHeard l from source (Some (first, last)) entries ≡ SnpHeard m (envelope d.config d.boot) d.config.system (Some (start, end)) others → Csnp m start end others ≡ Csnp l first last entries
    same-csnp q =
        ap (λ (p : ℕ × ℕ). Csnp m p.0 p.1 others) (sym (some-same _ _ (same-range l m _ _ _ _ _ _ _ _ q)))
        ∙ ap (λ (es : List SnpEntry). Csnp m first last es) (sym (same-entries l m _ _ _ _ _ _ _ _ q))
        ∙ ap (λ (k : Level). Csnp k first last entries) (sym (same-level l m _ _ _ _ _ _ _ _ q))
read-csnp own d (Psnp m others) e l from source first last entries (inr q) = absurd (cc)

read-on : (r : Router) (c : Option Circuit) (d : Datagram) → IsPlain d → (l : Level) (from : Envelope) (source first last : ℕ) (entries : List SnpEntry)
    → read_on r c (octets_of d) ≡ SnpHeard l from source (Some (first, last)) entries → d.says ≡ Csnp l first last entries
read-on r None d plain l from source first last entries q = absurd (cc)
read-on r (Some c) d plain l from source first last entries q = ⊎_elim
    (λ (legible : IsLegible d). read-csnp r.config.system d d.says refl l from source first last entries (subst (λ (m : Message). IsReading m (said r.config.system d.config d.boot d.place d.circuit d.says)) q (legible r.config c)))
    (λ (silent : (by : _) (on : _) → IsSilent (read by on (octets_of d))). absurd (subst IsSilent q (silent r.config c)))
    plain.clear

-- an LSP ID of another system than this
other-system : (n : ℕ) → (n == n + 1) ≡ false
other-system n = grind (arith, nat_tests)

foreign : (s : LevelState) (id : ℕ) → whose_of (id / 65536 + 1) s id ≡ whose.Other
foreign s id = ap (λ (t : Bool). if not t then whose.Other else (if is_some (find s.own id) then whose.Issued else whose.Unissued)) (other-system (id / 65536))

or-left : (a b : Bool) → (a || b) ≡ false → a ≡ false
or-left true b e = absurd (cc)
or-left false b e = refl

or-right : (a b : Bool) → (a || b) ≡ false → b ≡ false
or-right true b e = absurd (cc)
or-right false b e = e

-- an entry that sets no flag, as a list of one that sets none
alone-clean : (scene : Scene) (s : LevelState) (place : ℕ) (h : SnpEntry) → would_flag s.book h ≡ false → AreClean scene s (h.id / 65536 + 1) place (h ∷ [])
alone-clean scene s place h e = (subst (λ (w : Whose). sets_flag (snp_case w (cell_at s.book h.id) h) ≡ false) (sym (foreign s h.id)) e, tt)

entry-live : (scene : Scene) (s : LevelState) (h : SnpEntry) → would_flag s.book h ≡ false → is_live h.rank ≡ true → 0 < h.lifetime → 0 < h.checksum → rank_at s.book h.id ≡ h.rank
entry-live scene s h e live left sum = ((clean-held scene s (h.id / 65536 + 1) 0 (h ∷ []) (alone-clean scene s 0 h e)).0 live left sum).0

held-live : (scene : Scene) (s : LevelState) (entries : List SnpEntry) (h : SnpEntry) → would_flag_any s.book entries ≡ false → Entry h entries → is_live h.rank ≡ true → 0 < h.lifetime → 0 < h.checksum → rank_at s.book h.id ≡ h.rank
held-live scene s [] h a x live left sum = absurd x
held-live scene s (y ∷ entries) h a (inl e) live left sum =
    let f = subst (λ (z : SnpEntry). is_live z.rank ≡ true → 0 < z.lifetime → 0 < z.checksum → rank_at s.book z.id ≡ z.rank) (sym e) (entry-live scene s y (or-left _ _ a)) in f live left sum
held-live scene s (y ∷ entries) h a (inr x) live left sum = held-live scene s entries h (or-right _ _ a) x live left sum

-- what is held live of an LSP ID that an entry lists, it lists so
not-missed : (h : SnpEntry) (id : ℕ) (cell : Cell) → is_missed h.id h.id (h ∷ []) id cell ≡ false
not-missed h id cell = grind (arith, nat_tests)

entry-lists : (scene : Scene) (s : LevelState) (h : SnpEntry) → would_flag s.book h ≡ false → is_live (rank_at s.book h.id) ≡ true → h.rank ≡ rank_at s.book h.id
entry-lists scene s h e live = from (clean-listed scene s (h.id / 65536 + 1) 0 h.id h.id (h ∷ []) (alone-clean scene s 0 h e) (λ id cell _. not-missed h id cell) h.id (le_refl _) (le_refl _) live)
  where
    from : ListsKey (h ∷ []) h.id (rank_at s.book h.id) (checksum_of (cell_at s.book h.id)) → h.rank ≡ rank_at s.book h.id
    from (inl x) = x.1
    from (inr x) = absurd x

record Found (entries : List SnpEntry) (id rank : ℕ) : Type 0 where
  entry : SnpEntry
  stands : Entry entry entries
  id_is : entry.id ≡ id
  rank_is : entry.rank ≡ rank

found : (scene : Scene) (s : LevelState) (entries : List SnpEntry) (id : ℕ) → would_flag_any s.book entries ≡ false → lists entries id ≡ true → is_live (rank_at s.book id) ≡ true → Found entries id (rank_at s.book id)
found scene s [] id a e live = absurd (cc)
found scene s (h ∷ entries) id a e live =
    test (λ t. (h.id == id) ≡ t → (t || lists entries id) ≡ true → Found (h ∷ entries) id (rank_at s.book id)) (h.id == id)
    (λ _ y _. let same : h.id ≡ id = grind (arith, nat_tests) in
    let alive : is_live (rank_at s.book h.id) ≡ true = subst (λ (n : ℕ). is_live (rank_at s.book n) ≡ true) (sym same) live in
    record { entry = h; stands = inl refl; id_is = same; rank_is = entry-lists scene s h (or-left _ _ a) alive ∙ ap (λ (n : ℕ). rank_at s.book n) same })
    (λ _ _ more. let f = found scene s entries id (or-right _ _ a) more live in record { entry = f.entry; stands = inr f.stands; id_is = f.id_is; rank_is = f.rank_is }) refl e

-- what is held live in a range that sets no flag is listed
missed-at : (first last : ℕ) (entries : List SnpEntry) (cells : List (ℕ × Cell)) (id : ℕ) (cell : Cell) → misses_any first last entries cells ≡ false → find cells id ≡ Some cell → is_missed first last entries id cell ≡ false
missed-at first last entries [] id cell e q = absurd (cc)
missed-at first last entries (x ∷ cells) id cell e q =
    test (λ t. (x.0 == id) ≡ t → (if t then Some x.1 else find cells id) ≡ Some cell → is_missed first last entries id cell ≡ false) (x.0 == id)
    (λ _ y k. let same : x.0 ≡ id = grind (arith, nat_tests) in
    subst (λ (n : ℕ). is_missed first last entries n cell ≡ false) same (subst (λ (c : Cell). is_missed first last entries x.0 c ≡ false) (some-same x.1 cell k) (or-left _ _ e)))
    (λ _ _ k. missed-at first last entries cells id cell (or-right _ _ e) k) refl q

in-range : (alive : Bool) (start id end : ℕ) (t : Bool) → alive ≡ true → start ≤ id → id ≤ end → (alive && nat_le start id && nat_le id end && not t) ≡ false → t ≡ true
in-range alive start id end true a low high e = refl
in-range alive start id end false a low high e = absurd (grind (arith, nat_tests, a, low, high, e))

is-listed : (s : LevelState) (first last : ℕ) (entries : List SnpEntry) (id : ℕ) → would_flag_range s.book first last entries ≡ false → first ≤ id → id ≤ last → is_live (rank_at s.book id) ≡ true → lists entries id ≡ true
is-listed s first last entries id e low high live = on (cell_at s.book id) refl
  where
    on : (held : Option Cell) → cell_at s.book id ≡ held → lists entries id ≡ true
    on None q = absurd (let none : rank_at s.book id ≡ 0 = ap rank_of q in grind (arith, nat_tests, none, live))
    on (Some c) q =
        let missed = missed-at first last entries s.book.cells id c e q in
        let alive : is_live c.rank ≡ true = sym (ap (λ (o : Option Cell). is_live (rank_of o)) q) ∙ live in
        in-range (is_live c.rank) first id last (lists entries id) alive low high missed

-- two ranks that are one where either is live are one live rank
one-live : (m n : ℕ) → (is_live m ≡ true → n ≡ m) → (is_live n ≡ true → n ≡ m) → live_rank m ≡ live_rank n
one-live m n f g = by-tests (is_live m) (is_live n) refl refl
  where
    by-tests : (s t : Bool) → is_live m ≡ s → is_live n ≡ t → (if s then m else 0) ≡ (if t then n else 0)
    by-tests true true x y = sym (f x)
    by-tests true false x y = absurd (let k = subst (λ (z : ℕ). is_live z ≡ false) (f x) y in cc)
    by-tests false true x y = absurd (let k = subst (λ (z : ℕ). is_live z ≡ true) (g y) y in cc)
    by-tests false false x y = refl

live-some : (n : ℕ) → is_live n ≡ true → 0 < n
live-some n e = grind (arith, nat_tests)

-- a router that takes a CSNP without a flag holds what its sender does, where that stands
take-live : (given : Given) (r b : Router) (l : Level) (first last : ℕ) (entries : List SnpEntry) → would_flag_any (book_of r l) entries ≡ false → would_flag_range (book_of r l) first last entries ≡ false → TellsKeys b l first last entries → (id : ℕ) → first ≤ id → id ≤ last → live_at r l id ≡ live_at b l id
take-live given r b l first last entries clean range tells id low high =
    let scene = scene_of given r l in
    one-live (rank_at (book_of r l) id) (rank_at (book_of b l) id)
    (λ live. let f = found scene (level_of r l) entries id clean (is-listed (level_of r l) first last entries id range low high live) live in sym (sym f.rank_is ∙ tells.holds f.entry f.stands ∙ ap (λ (n : ℕ). rank_at (book_of b l) n) f.id_is))
    (λ live. let f = tells.lists id low high (live-some _ live) in
    sym (sym (ap (λ (n : ℕ). rank_at (book_of r l) n) f.id_is) ∙ held-live scene (level_of r l) entries f.entry clean f.stands (subst (λ (n : ℕ). is_live n ≡ true) (sym f.rank_is) live) (f.left live) (f.summed live) ∙ f.rank_is))

not-false : (t : Bool) → not t ≡ true → t ≡ false
not-false true e = absurd (cc)
not-false false e = refl

and-left : (a b : Bool) → (a && b) ≡ true → a ≡ true
and-left true b e = refl
and-left false b e = absurd (cc)

and-right : (a b : Bool) → (a && b) ≡ true → b ≡ true
and-right true b e = e
and-right false b e = absurd (cc)

-- a taking is agreed
taking-agreed : (given : Given) (net : Network) (i : ℕ) (r now : Router) (d : Datagram) (l : Level) (range : ℕ × ℕ) (entries : List SnpEntry) → AreTrue net → In d net.datagrams → nth net.routers i ≡ Some r
    → d.says ≡ Csnp l range.0 range.1 entries → is_clean r now l range entries ≡ true → IsAgreed net (taking_of i r d l range)
taking-agreed given net i r now d l range entries t x at_r says c = record {
  member = λ s e. subst (λ (y : Router). IsPast y l r.boot (book_of r l).changes) (some-same r s (sym at_r ∙ e)) (record { boot = le_refl _; changes = λ _. le_refl _ });
  sender = λ s e. (t.each d x).past s l e;
  same = λ a b e f here there id low high.
      let tells = (t.each d x).tells b l range.0 range.1 entries f says there in
      let both = and-left _ _ c in
      ap (λ (y : Router). live_at y l id) (sym (some-same r a (sym at_r ∙ e)))
      ∙ take-live given r b l range.0 range.1 entries (not-false _ (and-left _ _ both)) (not-false _ (and-right _ _ both)) tells id low high;
}

-- what a router hears in a datagram
heard-agreed : (given : Given) (net : Network) (i : ℕ) (r now : Router) (place : ℕ) (c : Circuit) (d : Datagram) (m : Message) → HaveOrigins net → AreTrue net → In d net.datagrams → nth net.routers i ≡ Some r
    → m ≡ read_on r (Some c) (octets_of d) → AreAgreed net (heard_range i r now place c d m)
heard-agreed given net i r now place c d (Refused cause) o t x at_r q = tt
heard-agreed given net i r now place c d (PointHelloHeard h) o t x at_r q = tt
heard-agreed given net i r now place c d (LanHelloHeard l h) o t x at_r q = tt
heard-agreed given net i r now place c d (LspHeard l from h) o t x at_r q = tt
heard-agreed given net i r now place c d (SnpHeard l from source None entries) o t x at_r q = tt
heard-agreed given net i r now place c d (SnpHeard l from source (Some range) entries) o t x at_r q =
    test (λ b. whole ≡ b → AreAgreed net (if b then taking_of i r d l range ∷ [] else [])) whole
    (λ _ e. (taking-agreed given net i r now d l range entries t x at_r (read-on r (Some c) d (o.plain d x) l from source range.0 range.1 entries (sym q)) (and-right _ _ e), tt))
    (λ _ _. tt) refl
  where
    whole : Bool
    whole = c.lan && is_none (drop_of r place c (SnpHeard l from source (Some range) entries)) && is_clean r now l range entries

ranges-agreed : (given : Given) (net : Network) (i : ℕ) (r now : Router) (place : ℕ) (c : Option Circuit) (d : Datagram) (m : Message) → HaveOrigins net → AreTrue net → In d net.datagrams → nth net.routers i ≡ Some r
    → m ≡ read_on r c (octets_of d) → AreAgreed net (ranges_of i r now place c d m)
unfolding ranges_of
ranges-agreed given net i r now place None d m o t x at_r q = tt
ranges-agreed given net i r now place (Some c) d m o t x at_r q = heard-agreed given net i r now place c d m o t x at_r q

-- ---- each event

brought-agreed : (given : Given) (net : Network) (i : ℕ) (r : Router) (ts : List Taking) → HaveOrigins net → AreTrue net → nth net.routers i ≡ Some r → Brings given net i r ts → AreAgreed net ts
brought-agreed given net i r ts o t at_r Nothing = tt
brought-agreed given net i r ts o t at_r (Ranges d place x) =
    ranges-agreed given net i r (step given r (taking r place (octets_of d))).router place (nth r.circuits place) d (read_on r (nth r.circuits place) (octets_of d)) o t x at_r refl

change-agreed : (given : Given) (net new : Network) → HaveOrigins net → AreTrue net → Change given net new → AreAgreed net net.takings → AreAgreed new new.takings
change-agreed given net new o t (Still _) a = a
change-agreed given net new o t (Moved i link event r ts m b) a =
    all-later given net new (ts ++ net.takings) (Moved i link event r ts m b) (agreed-append net ts net.takings (brought-agreed given net i r ts o t m.found b) a)
change-agreed given net new o t (Restarted i r q) a = all-later given net new net.takings (Restarted i r q) a

pub apply-agreed : (leaks : Router → Level → List (ℕ × ℕ)) (attached : Router → Bool) (net : Network) (h : Happening) → is_injection h ≡ false → HaveOrigins net → AreTrue net
    → AreAgreed net net.takings → AreAgreed (apply (given_octets leaks attached) net h) (apply (given_octets leaks attached) net h).takings
apply-agreed leaks attached net h plain o t a = change-agreed (given_octets leaks attached) net (apply (given_octets leaks attached) net h) o t (apply-change (given_octets leaks attached) net h plain) a

-- ---- who is swept

-- nothing is held past the LSP IDs
past-ids : (r : Router) (l : Level) (id : ℕ) → IsGoodRouter r → (id < 2 ^ 64 → ⊥) → live_at r l id ≡ 0
past-ids r l id good n = none (cell_at (book_of r l) id) ((good.on l).at id)
  where
    none : (o : Option Cell) → IsGood id o → live_rank (rank_of o) ≡ 0
    none None g = refl
    none (Some c) g = absurd (n g.0)

covered-live : (net : Network) (link : ℕ) (l : Level) (m d : ℕ) (a b : Router) (id : ℕ) (ts : List Taking) → AreAgreed net ts → nth net.routers m ≡ Some a → nth net.routers d ≡ Some b → IsCovered net link l m d id ts → live_at a l id ≡ live_at b l id
covered-live net link l m d a b id [] h x y c = absurd c
covered-live net link l m d a b id (t ∷ ts) h x y (inr c) = covered-live net link l m d a b id ts h.1 x y c
covered-live net link l m d a b id (t ∷ ts) h x y (inl c) =
    let is_a : c.a ≡ a = some-same c.a a (sym c.at_a ∙ x) in
    let is_b : c.b ≡ b = some-same c.b b (sym c.at_b ∙ y) in
    let here = subst (λ (k : Level). IsAt c.a k t.boot t.changes) (sym c.level_is) c.here in
    let there = subst (λ (k : Level). IsAt c.b k t.sent_boot t.sent_changes) (sym c.level_is) c.there in
    let at_a : nth net.routers t.member ≡ Some c.a = ap (λ (n : ℕ). nth net.routers n) c.of_member ∙ c.at_a in
    let at_b : nth net.routers t.sender ≡ Some c.b = ap (λ (n : ℕ). nth net.routers n) c.of_other ∙ c.at_b in
    let same = h.0.same c.a c.b at_a at_b here there id c.low c.high in
    ap (λ (r : Router). live_at r l id) (sym is_a) ∙ subst (λ (k : Level). live_at c.a k id ≡ live_at c.b k id) c.level_is same ∙ ap (λ (r : Router). live_at r l id) is_b

pub swept-live : (net : Network) (link : ℕ) (l : Level) (m d : ℕ) (a b : Router) (id : ℕ) → AreSpeaking net → AreAgreed net net.takings → IsSweptBy net link l m d → nth net.routers m ≡ Some a → nth net.routers d ≡ Some b → live_at a l id ≡ live_at b l id
swept-live net link l m d a b id speak h s x y =
    ⊎_elim (λ (k : id < 2 ^ 64). covered-live net link l m d a b id net.takings h x y (s.each id k))
    (λ (k : 2 ^ 64 ≤ id). past-ids a l id (speak m a x).good (λ z. omega (arith, z, k)) ∙ sym (past-ids b l id (speak d b y).good (λ z. omega (arith, z, k)))) (cases_lt id (2 ^ 64))
