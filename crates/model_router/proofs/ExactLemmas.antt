-- An LSP that is sent is held as it is sent.
use Rattle.std.proofs.Common.{◌≡◌, ℕ, ◌+◌, ◌==◌, nat_lt, Bool, true, false, ◌&&◌, List, [], ◌∷◌, ◌++◌, length, Option, Some, None, if◌then◌else◌, refl, sym, ◌∙◌, subst}
use Rattle.std.specs.Option.{option_map}
use Rattle.std.specs.List.{AllByRecursion}
use Rattle.isis_base.specs.declared.level.Level.{Level}
use Rattle.isis_base.specs.declared.level.Level.TheVariants as level
use Rattle.model_router.specs.declared.drop_name.DropName.{DropName}
use Rattle.model_router.specs.declared.lsp_case.LspCase.{LspCase}
use Rattle.model_router.specs.declared.lsp_case.LspCase.TheVariants as lsp
use Rattle.model_router.specs.Maps.{find, each}
use Rattle.model_router.specs.Both.{at}
use Rattle.model_router.specs.Places.{nth}
use Rattle.model_router.specs.Sets.{has}
use Rattle.model_router.specs.Cells.{Cell, Heard, srm_sent, srm_off, ssn_off}
use Rattle.model_router.specs.Books.{Book, cell_at}
use Rattle.model_router.specs.SnpTable.{SnpEntry}
use Rattle.model_router.specs.Routers.{Circuit, Router, level_of, book_of, with_book, with_circuit}
use Rattle.model_router.specs.Givens.{Given}
use Rattle.model_router.specs.Datagrams.{Sent, PointHello, LanHello, Lsp, Csnp, Psnp}
use Rattle.model_router.specs.Pulls.{csnp_sent, Sending, due_lsps, srm_due, sent_cell, sent, answered, lan_hello, hellos, on_circuit, at_circuit, pull_hello, pull_csnp, pull_lsps, pull_psnp, pull_level, pull, is_csnp_due, with_part}
use Rattle.model_router.specs.SnpLists.{csnp_set, csnps, last_id, pieces, owed, psnps}
use Rattle.model_router.specs.Events.{Done, Send, Message, Refused, PointHelloHeard, LanHelloHeard, LspHeard, SnpHeard, Event, Second, Take, Pull, Metric, Overload, Prefix, Outcome, settled}
use Rattle.model_router.specs.Receiving.{taken, acks, take_or_drop, drop_of}
use Rattle.model_router.specs.Steps.{sent_all, step}
use Rattle.model_router.specs.Deeds.{content_of, Courses}
use Rattle.model_router.specs.Sorted.{IsSorted}
use Rattle.model_router.specs.ReplyLaws.{WasHeld, IsExact, IsReplyExact}
use Rattle.model_router.specs.Receiving as receiving
use Rattle.model_router.proofs.MapLemmas.{find-each}
use Rattle.model_router.proofs.BookLemmas.{choose}
use Rattle.model_router.proofs.RisingLemmas.{course-rises}
use Rattle.model_router.proofs.ListLemmas.{all-map, all-append}
use Rattle.model_router.proofs.SentLemmas.{cells-found, quiet}
use Rattle.model_router.proofs.PullWays.{pull_lsps-course, pull_psnp-course}

-- what is held stays so but for flags
record SameCells (r t : Router) : Type 0 where
  same : (l : Level) (id : ℕ) (c : Cell) → WasHeld (cell_at (book_of r l) id) c → WasHeld (cell_at (book_of t l) id) c

-- what keeps rank and content
pub record IsFlagging (f : ℕ → Cell → Cell) : Type 0 where
  pub rank : (id : ℕ) (c : Cell) → (f id c).rank ≡ c.rank
  pub content : (id : ℕ) (c : Cell) → content_of (f id c) ≡ content_of c

flagging-held : (f : ℕ → Cell → Cell) → IsFlagging f → (m : List (ℕ × Cell)) (id : ℕ) (c : Cell) → WasHeld (find m id) c → WasHeld (find (each f m) id) c
flagging-held f k m id c h = subst (λ (o : Option Cell). WasHeld o c) (sym (find-each f m id)) (mapped (find m id) h)
  where
    mapped : (o : Option Cell) → WasHeld o c → WasHeld (option_map (f id) o) c
    mapped None x = x
    mapped (Some d) x = (k.rank id d ∙ x.0, k.content id d ∙ x.1)

pub sent-flagging : (b : Book) (place : ℕ) → IsFlagging (λ (_ : ℕ) (c : Cell). sent_cell b.p2p place c)
sent-flagging b place = record { rank = λ id c. same-rank c (srm_due place c) (has b.p2p place); content = λ id c. same-content c (srm_due place c) (has b.p2p place) }
  where
    same-rank : (c : Cell) (s t : Bool) → ◌≡◌ {A = ℕ} ((if s then (if t then srm_sent c place else srm_off c place) else c).rank) c.rank
    same-rank c true true = refl
    same-rank c true false = refl
    same-rank c false t = refl

    same-content : (c : Cell) (s t : Bool) → content_of (if s then (if t then srm_sent c place else srm_off c place) else c) ≡ content_of c
    same-content c true true = refl
    same-content c true false = refl
    same-content c false t = refl

book-same : (r : Router) (l : Level) (b : Book) → ((id : ℕ) (c : Cell) → WasHeld (cell_at (book_of r l) id) c → WasHeld (cell_at b id) c) → SameCells r (with_book r l b)
book-same r l b h = record { same = λ m id c x. one l m id c h x }
  where
    one : (l m : Level) (id : ℕ) (c : Cell) → ((id : ℕ) (c : Cell) → WasHeld (cell_at (book_of r l) id) c → WasHeld (cell_at b id) c) → WasHeld (cell_at (book_of r m) id) c → WasHeld (cell_at (book_of (with_book r l b) m) id) c
    one level.One level.One id c h x = h id c x
    one level.One level.Two id c h x = x
    one level.Two level.One id c h x = x
    one level.Two level.Two id c h x = h id c x

sent-held : (b : Book) (place id : ℕ) (c : Cell) → WasHeld (cell_at b id) c → WasHeld (cell_at (sent b place) id) c
unfolding sent
sent-held b place id c h = flagging-held _ (sent-flagging b place) b.cells id c h

answered-held : (b : Book) (place id : ℕ) (c : Cell) → WasHeld (cell_at b id) c → WasHeld (cell_at (answered b place) id) c
unfolding answered
answered-held b place id c h = flagging-held (λ (_ : ℕ) (d : Cell). ssn_off d place) (record { rank = λ id d. refl; content = λ id d. refl }) b.cells id c h

exact-later : (r t : Router) → SameCells r t → (s : Sent) → IsExact r s → IsExact t s
exact-later r t k (PointHello state extended names) h = tt
exact-later r t k (LanHello l lan snpas) h = tt
exact-later r t k (Lsp l id c) h = k.same l id c h
exact-later r t k (Csnp l start end entries) h = tt
exact-later r t k (Psnp l entries) h = tt

-- ---- what is sent

csnps-exact : (r : Router) (l : Level) (start : ℕ) (p : List (List SnpEntry)) → AllByRecursion (IsExact r) (csnps l start p)
csnps-exact r l start [] = tt
csnps-exact r l start (p ∷ []) = (tt, tt)
csnps-exact r l start (p ∷ q ∷ rest) = (tt, csnps-exact r l (last_id p + 1) (q ∷ rest))

psnps-exact : (r : Router) (l : Level) (p : List (List SnpEntry)) → AllByRecursion (IsExact r) (psnps l p)
psnps-exact r l [] = tt
psnps-exact r l (p ∷ rest) = (tt, psnps-exact r l rest)

due-exact : (r : Router) (l : Level) (place : ℕ) (cells : List (ℕ × Cell)) → AllByRecursion (λ (p : ℕ × Cell). find (book_of r l).cells p.0 ≡ Some p.1) cells → AllByRecursion (IsExact r) (due_lsps l place cells)
due-exact r l place [] all = tt
due-exact r l place (p ∷ cells) all =
    choose (λ (out : List Sent). AllByRecursion (IsExact r) out) (srm_due place p.1) (Lsp l p.0 p.1 ∷ due_lsps l place cells) (due_lsps l place cells)
    (λ _. (subst (λ (o : Option Cell). WasHeld o p.1) (sym all.0) (refl, refl), due-exact r l place cells all.1)) (λ _. due-exact r l place cells all.1)

lan_hello-exact : (r t : Router) (place : ℕ) (c : Circuit) (l : Level) → AllByRecursion (IsExact t) (lan_hello r place c l)
lan_hello-exact r t place c l = choose (λ (out : List Sent). AllByRecursion (IsExact t) out) (at r.config.runs l) _ [] (λ _. (tt, tt)) (λ _. tt)

hellos-exact : (r t : Router) (place : ℕ) (c : Circuit) → AllByRecursion (IsExact t) (hellos r place c)
hellos-exact r t place c = choose (λ (out : List Sent). AllByRecursion (IsExact t) out) c.lan _ _
    (λ _. all-append (IsExact t) (lan_hello r place c level.One) (lan_hello r place c level.Two) (lan_hello-exact r t place c level.One) (lan_hello-exact r t place c level.Two))
    (λ _. (tt, tt))

-- ---- a pull

record Exact (s : Sending) : Type 0 where
  exact : AllByRecursion (IsExact s.router) s.out
  sorted : IsSorted s.router

exact-more : (s t : Sending) (more : List Sent) → t.out ≡ s.out ++ more → SameCells s.router t.router → IsSorted t.router → AllByRecursion (IsExact s.router) more → Exact s → Exact t
exact-more s t more e k sorted new h = record {
  exact = rw e (all-append (IsExact t.router) s.out more (all-map (IsExact s.router) (IsExact t.router) s.out (exact-later s.router t.router k) h.exact) (all-map (IsExact s.router) (IsExact t.router) more (exact-later s.router t.router k) new));
  sorted = sorted;
}

sorted-later : (r t : Router) → Courses quiet r t → IsSorted r → IsSorted t
sorted-later r t c h = record { on = λ l. course-rises (quiet l) (level_of r l) (level_of t l) (c.on l) (h.on l) }

aside-same : (r : Router) (place : ℕ) (c : Circuit) → SameCells r (with_circuit r place c)
aside-same r place c = record { same = λ l id d x. x }

at_circuit-exact : (s : Sending) (place : ℕ) (f : Circuit → Sending) → Exact s → ((c : Circuit) → Exact (f c)) → Exact (at_circuit s place f)
at_circuit-exact s place f h g = on-it (nth s.router.circuits place)
  where
    on-it : (c : Option Circuit) → Exact (on_circuit c s f)
    on-it None = h
    on-it (Some c) = g c

pull_hello-exact : (s : Sending) (place : ℕ) (c : Circuit) → Exact s → Exact (pull_hello s place c)
unfolding pull_hello
pull_hello-exact s place c h = choose Exact (c.hello == 0) _ s
    (λ _. let new = record c { hello = 10 } in
    exact-more s (record { router = with_circuit s.router place new; out = s.out ++ hellos s.router place c }) (hellos s.router place c) refl (aside-same s.router place new) (record { on = λ l. h.sorted.on l }) (hellos-exact s.router s.router place c) h)
    (λ _. h)

pull_csnp-exact : (s : Sending) (place : ℕ) (l : Level) (c : Circuit) → Exact s → Exact (pull_csnp s place l c)
unfolding pull_csnp
pull_csnp-exact s place l c h =
    let new = with_part c l (csnp_sent c.lan (at c.levels l)) in
    let t : Sending = record { router = with_circuit s.router place new; out = s.out ++ csnp_set l (book_of s.router l) } in
    choose Exact (is_csnp_due s.router.config place c l) t s
    (λ _. exact-more s t (csnp_set l (book_of s.router l)) refl (aside-same s.router place new) (record { on = λ m. h.sorted.on m }) (csnps-exact s.router l 0 _) h)
    (λ _. h)

pull_lsps-exact : (s : Sending) (place : ℕ) (l : Level) → Exact s → Exact (pull_lsps s place l)
unfolding pull_lsps
pull_lsps-exact s place l h =
    let t : Sending = record { router = with_book s.router l (sent (book_of s.router l) place); out = s.out ++ due_lsps l place (book_of s.router l).cells } in
    exact-more s t (due_lsps l place (book_of s.router l).cells) refl (book-same s.router l _ (λ id c x. sent-held (book_of s.router l) place id c x)) (sorted-later s.router t.router (pull_lsps-course quiet s place l) h.sorted)
    (due-exact s.router l place (book_of s.router l).cells (cells-found s.router l h.sorted)) h

same-trans : (r s t : Router) → SameCells r s → SameCells s t → SameCells r t
same-trans r s t f g = record { same = λ l id c x. g.same l id c (f.same l id c x) }

answered-later : (r : Router) (place : ℕ) (new : Circuit) (l : Level) → SameCells (with_circuit r place new) (with_book (with_circuit r place new) l (answered (book_of r l) place))
answered-later r place new level.One = book-same (with_circuit r place new) level.One _ (λ id c x. answered-held (book_of r level.One) place id c x)
answered-later r place new level.Two = book-same (with_circuit r place new) level.Two _ (λ id c x. answered-held (book_of r level.Two) place id c x)

pull_psnp-exact : (s : Sending) (place : ℕ) (l : Level) (c : Circuit) → Exact s → Exact (pull_psnp s place l c)
unfolding pull_psnp
pull_psnp-exact s place l c h =
    let entries = owed place (book_of s.router l) in
    let new = with_part c l (record (at c.levels l) { psnp = 2 }) in
    let mid = with_circuit s.router place new in
    let t : Sending = record { router = with_book mid l (answered (book_of s.router l) place); out = s.out ++ psnps l (pieces (length entries) entries) } in
    choose (λ (u : Sending). Courses quiet s.router u.router → Exact u) (nat_lt 0 (length entries) && (at c.levels l).psnp == 0) t s
    (λ _ k. exact-more s t (psnps l (pieces (length entries) entries)) refl (same-trans s.router mid t.router (aside-same s.router place new) (answered-later s.router place new l)) (sorted-later s.router t.router k h.sorted) (psnps-exact s.router l _) h)
    (λ _ k. h) (pull_psnp-course quiet s place l c tt)

pull_level-exact : (s : Sending) (place : ℕ) (l : Level) → Exact s → Exact (pull_level s place l)
unfolding pull_level
pull_level-exact s place l h =
    let csnp = at_circuit s place (pull_csnp s place l) in
    let lsps = pull_lsps csnp place l in
    choose Exact (has (book_of s.router l).opened place) (at_circuit lsps place (pull_psnp lsps place l)) s
    (λ _. let one = at_circuit-exact s place (pull_csnp s place l) h (λ c. pull_csnp-exact s place l c h) in
    let two = pull_lsps-exact csnp place l one in
    at_circuit-exact lsps place (pull_psnp lsps place l) two (λ c. pull_psnp-exact lsps place l c two))
    (λ _. h)

pull-exact : (r : Router) (place : ℕ) → IsSorted r → AllByRecursion (IsExact (pull r place).router) (pull r place).out
unfolding pull
pull-exact r place sorted =
    let start : Sending = record { router = r; out = [] } in
    let zero : Exact start = record { exact = tt; sorted = sorted } in
    let one = at_circuit-exact start place (pull_hello start place) zero (λ c. pull_hello-exact start place c zero) in
    (pull_level-exact _ place level.Two (pull_level-exact _ place level.One one)).exact

-- ---- the reply

acks-exact : (t : Router) (c : Circuit) (l : Level) (h : Heard) (row : LspCase) → IsReplyExact t (acks c l h row)
acks-exact t c l h lsp.AckPurge = choose (IsReplyExact t) c.lan Done (Send _) (λ _. tt) (λ _. (tt, tt))
acks-exact t c l h lsp.Outbid = tt
acks-exact t c l h lsp.PurgedOwn = tt
acks-exact t c l h lsp.Confused = tt
acks-exact t c l h lsp.Stored = tt
acks-exact t c l h lsp.Same = tt
acks-exact t c l h lsp.Older = tt

taken-exact : (given : Given) (r t : Router) (place : ℕ) (c : Circuit) (m : Message) → IsReplyExact t (taken given r place c m).reply
taken-exact given r t place c (Refused cause) = tt
taken-exact given r t place c (PointHelloHeard h) = tt
taken-exact given r t place c (LanHelloHeard l h) = tt
taken-exact given r t place c (LspHeard l snpa h) = acks-exact t c l h _
taken-exact given r t place c (SnpHeard l snpa source range entries) = tt

take_or_drop-exact : (given : Given) (r t : Router) (place : ℕ) (c : Circuit) (m : Message) (drop : Option DropName) → IsReplyExact t (take_or_drop given r place c m drop).reply
take_or_drop-exact given r t place c m (Some cause) = tt
take_or_drop-exact given r t place c m None = taken-exact given r t place c m

take-exact : (given : Given) (r t : Router) (place : ℕ) (m : Message) (c : Option Circuit) → IsReplyExact t (receiving.take given r place m c).reply
take-exact given r t place m None = tt
take-exact given r t place m (Some c) = take_or_drop-exact given r t place c m (drop_of r place c m)

settled-same : (o : Outcome) → SameCells o.router (settled o).router
settled-same o = record { same = λ l id c x. x }

pub step-exact : (given : Given) (r : Router) (event : Event) → IsSorted r → IsReplyExact (step given r event).router (step given r event).reply
unfolding step
step-exact given r Second s = tt
step-exact given r (Take place m) s = take-exact given r (step given r (Take place m)).router place m (nth r.circuits place)
step-exact given r (Pull place) s = all-map (IsExact (pull r place).router) (IsExact (settled (sent_all (pull r place))).router) (pull r place).out (exact-later (pull r place).router (settled (sent_all (pull r place))).router (settled-same (sent_all (pull r place)))) (pull-exact r place s)
step-exact given r (Metric place metric) s = tt
step-exact given r (Overload on) s = tt
step-exact given r (Prefix prefix metric) s = tt
