-- What the parts of a step on a router keep of each cell's flags, and so the step.
use Rattle.std.proofs.Common.{◌≡◌, ℕ, zero, suc, ◌==◌, Bool, true, false, not, ◌&&◌, nat_lt, [], length, Option, Some, None, is_some}
use Rattle.std.proofs.Common.{if◌then◌else◌, refl, sym, subst}
use Rattle.isis_base.specs.declared.level.Level.{Level}
use Rattle.isis_base.specs.declared.level.Level.TheVariants as level
use Rattle.model_router.specs.declared.drop_name.DropName.{DropName}
use Rattle.model_router.specs.declared.drop_name.DropName.TheVariants.{NoAdjacency}
use Rattle.model_router.specs.Both.{Both, at, alone}
use Rattle.model_router.specs.Places.{nth}
use Rattle.model_router.specs.Sets.{has}
use Rattle.model_router.specs.Books.{Book}
use Rattle.model_router.specs.Adjacencies.{common_of, Handshake, Hello, is_same}
use Rattle.model_router.specs.Openings.{close}
use Rattle.model_router.specs.Routers.{Circuit, LevelState, Router, level_of, book_of, with_level, with_book, with_circuit, is_open}
use Rattle.model_router.specs.Hellos.{follow_circuit, follow, point_circuit, lan_circuit, take_point, take_lan}
use Rattle.model_router.specs.Givens.{Given}
use Rattle.model_router.specs.Takes.{whose_of}
use Rattle.model_router.specs.OwnLsps.{renew}
use Rattle.model_router.specs.Wanted.{wanted}
use Rattle.model_router.specs.Ageing.{age}
use Rattle.model_router.specs.Seconds.{circuit_less, waited, count_down, hold, hold_one, hold_all, age_level, age_both, renew_level, second}
use Rattle.model_router.specs.SnpLists.{owed}
use Rattle.model_router.specs.Pulls.{Sending, is_csnp_due, with_part, sent, answered, on_circuit, at_circuit, pull_hello, pull_csnp, pull_lsps, pull_psnp}
use Rattle.model_router.specs.Pulls.{pull_level, pull}
use Rattle.model_router.specs.Events.{Message, Refused, PointHelloHeard, LanHelloHeard, LspHeard, SnpHeard, Event, Second, Take, Pull, Metric, Overload, Prefix}
use Rattle.model_router.specs.Events.{Outcome, settled}
use Rattle.model_router.specs.Receiving as receiving
use Rattle.model_router.specs.Receiving.{sender_of, is_from, greeted, scene_of, taken, take_or_drop, drop_of}
use Rattle.model_router.specs.Steps.{with_metric, with_prefix, step}
use Rattle.model_router.proofs.BookLemmas.{choose}
use Rattle.step_laws.proofs.FlagLemmas.{Rule, Whole, whole, wait_less-held, sent-held, answered-held, close-whole, set_open-whole}
use Rattle.step_laws.proofs.FlagLevels.{take_lsp-held, take_snp-held, age-held, renew-held}

-- a rule holds of all cells of both levels
pub record Holds (rule : Rule) (r : Router) : Type 0 where
  pub on : (l : Level) → Whole rule (book_of r l)

-- what changes neither level
aside : (rule : Rule) (r t : Router) → t.levels ≡ r.levels → Holds rule r → Holds rule t
aside rule r t e k = record { on = λ l. subst (λ (levels : Both LevelState). Whole rule (at levels l).book) (sym e) (k.on l) }

-- one level changes
on-level : (rule : Rule) (r : Router) (l : Level) (s : LevelState) → Holds rule r → Whole rule s.book → Holds rule (with_level r l s)
on-level rule r l s k m = record { on = λ n. one l n m }
  where
    one : (l n : Level) → Whole rule s.book → Whole rule (book_of (with_level r l s) n)
    one level.One level.One m = m
    one level.One level.Two m = k.on level.Two
    one level.Two level.One m = k.on level.One
    one level.Two level.Two m = m

-- ---- hellos

follow_circuit-whole : (rule : Rule) (b : Book) (anew : Bool) (place : ℕ) (up : Bool) → Whole rule b → Whole rule (follow_circuit anew b place up)
follow_circuit-whole rule b anew place up k =
    let first : Book = if anew then close b place else b in
    set_open-whole rule first place up (choose (λ (t : Book). Whole rule t) anew (close b place) b (λ _. close-whole rule b place k) (λ _. k))

follow-holds : (rule : Rule) (r : Router) (anew : Bool) (place : ℕ) (c : Circuit) → Holds rule r → Holds rule (follow r anew place c)
follow-holds rule r anew place c k =
    let one : Book = follow_circuit anew (book_of r level.One) place (is_open c level.One) in
    let first : Router = with_book r level.One one in
    let two : Book = follow_circuit anew (book_of first level.Two) place (is_open c level.Two) in
    let h : Holds rule first = on-level rule r level.One (record (level_of r level.One) { book = one }) k
    (follow_circuit-whole rule (book_of r level.One) anew place (is_open c level.One) (k.on level.One)) in
    on-level rule first level.Two (record (level_of first level.Two) { book = two }) h
    (follow_circuit-whole rule (book_of first level.Two) anew place (is_open c level.Two) (h.on level.Two))

take_point-holds : (rule : Rule) (r : Router) (place : ℕ) (c : Circuit) (h : Hello) (s : Handshake) → Holds rule r → Holds rule (take_point r place c h s)
unfolding take_point
take_point-holds rule r place c h s k =
    let common = common_of r.config h in
    let new = point_circuit c common h s in
    follow-holds rule (with_circuit r place new) (not (is_same c.point.neighbour common h s.extended)) place new
    (aside rule r (with_circuit r place new) refl k)

take_lan-holds : (rule : Rule) (r : Router) (place : ℕ) (c : Circuit) (l : Level) (h : Hello) → Holds rule r → Holds rule (take_lan r place c l h)
unfolding take_lan
take_lan-holds rule r place c l h k =
    let new = lan_circuit c l (alone l (common_of r.config h)) h in
    follow-holds rule (with_circuit r place new) false place new (aside rule r (with_circuit r place new) refl k)

-- ---- a second

count_down-holds : (rule : Rule) (r : Router) → Holds rule r → Holds rule (count_down r)
unfolding count_down
count_down-holds rule r k = record { on = each-level }
  where
    waited-whole : (s : LevelState) → Whole rule s.book → Whole rule (waited s).book
    waited-whole s m = whole rule s.book.opened (waited s).book (wait_less-held rule s.book.opened s.book m)

    each-level : (l : Level) → Whole rule (at (record { one = waited r.levels.one; two = waited r.levels.two }) l).book
    each-level level.One = waited-whole r.levels.one (k.on level.One)
    each-level level.Two = waited-whole r.levels.two (k.on level.Two)

hold-holds : (rule : Rule) (r : Router) (place : ℕ) (c : Circuit) → Holds rule r → Holds rule (hold r place c)
unfolding hold
hold-holds rule r place c k =
    let new = circuit_less c in follow-holds rule (with_circuit r place new) false place new (aside rule r (with_circuit r place new) refl k)

hold_one-holds : (rule : Rule) (r : Router) (place : ℕ) (c : Option Circuit) → Holds rule r → Holds rule (hold_one r place c)
hold_one-holds rule r place None k = k
hold_one-holds rule r place (Some c) k = hold-holds rule r place c k

hold_all-holds : (rule : Rule) (r : Router) (count : ℕ) → Holds rule r → Holds rule (hold_all r count)
hold_all-holds rule r zero k = k
hold_all-holds rule r (suc place) k = let first = hold_all r place in hold_one-holds rule first place (nth first.circuits place) (hold_all-holds rule r place k)

age_level-holds : (rule : Rule) (r : Router) (l : Level) → Holds rule r → Holds rule (age_level r l)
age_level-holds rule r l k =
    let s : LevelState = level_of r l in
    on-level rule r l (age s) k (whole rule s.book.opened (age s).book (age-held rule s.book.opened s (k.on l)))

renew_level-holds : (rule : Rule) (given : Given) (before r : Router) (l : Level) → Holds rule r → Holds rule (renew_level given before r l)
renew_level-holds rule given before r l k =
    let s : LevelState = level_of r l in
    let t : LevelState = renew given r l s (wanted given before r l) in
    on-level rule r l t k (whole rule s.book.opened t.book (renew-held rule s.book.opened given r l s (wanted given before r l) (k.on l)))

second-holds : (rule : Rule) (given : Given) (r : Router) → Holds rule r → Holds rule (second given r)
unfolding second
second-holds rule given r k =
    let one = count_down r in
    let two = hold_all one (length one.circuits) in
    let three = age_level two level.One in
    let four = age_both two in
    let five = renew_level given r four level.One in
    renew_level-holds rule given r five level.Two (renew_level-holds rule given r four level.One (
    age_level-holds rule three level.Two (age_level-holds rule two level.One (
    hold_all-holds rule one (length one.circuits) (count_down-holds rule r k)))))

-- ---- a pull

at_circuit-holds : (rule : Rule) (s : Sending) (place : ℕ) (f : Circuit → Sending) → Holds rule s.router → ((c : Circuit) → Holds rule (f c).router)
    → Holds rule (at_circuit s place f).router
at_circuit-holds rule s place f k h = on-it (nth s.router.circuits place)
  where
    on-it : (c : Option Circuit) → Holds rule (on_circuit c s f).router
    on-it None = k
    on-it (Some c) = h c

pull_hello-holds : (rule : Rule) (s : Sending) (place : ℕ) (c : Circuit) → Holds rule s.router → Holds rule (pull_hello s place c).router
unfolding pull_hello
pull_hello-holds rule s place c k = choose (λ (t : Sending). Holds rule t.router) (c.hello == 0) _ s (λ _. aside rule s.router _ refl k) (λ _. k)

pull_csnp-holds : (rule : Rule) (s : Sending) (place : ℕ) (l : Level) (c : Circuit) → Holds rule s.router → Holds rule (pull_csnp s place l c).router
unfolding pull_csnp
pull_csnp-holds rule s place l c k =
    choose (λ (t : Sending). Holds rule t.router) (is_csnp_due s.router.config place c l) _ s (λ _. aside rule s.router _ refl k) (λ _. k)

pull_lsps-holds : (rule : Rule) (s : Sending) (place : ℕ) (l : Level) → Holds rule s.router → Holds rule (pull_lsps s place l).router
unfolding pull_lsps
pull_lsps-holds rule s place l k =
    let b : Book = book_of s.router l in
    on-level rule s.router l (record (level_of s.router l) { book = sent b place }) k
    (whole rule b.opened (sent b place) (sent-held rule b.opened b place (k.on l)))

pull_psnp-holds : (rule : Rule) (s : Sending) (place : ℕ) (l : Level) (c : Circuit) → Holds rule s.router → Holds rule (pull_psnp s place l c).router
unfolding pull_psnp
pull_psnp-holds rule s place l c k =
    let mid = with_circuit s.router place (with_part c l (record (at c.levels l) { psnp = 2 })) in
    let b : Book = book_of s.router l in
    choose (λ (t : Sending). Holds rule t.router) (nat_lt 0 (length (owed place (book_of s.router l))) && (at c.levels l).psnp == 0) _ s
    (λ _. on-level rule mid l (record (level_of mid l) { book = answered b place }) (aside rule s.router mid refl k)
    (whole rule b.opened (answered b place) (answered-held rule b.opened b place (k.on l))))
    (λ _. k)

pull_level-holds : (rule : Rule) (s : Sending) (place : ℕ) (l : Level) → Holds rule s.router → Holds rule (pull_level s place l).router
unfolding pull_level
pull_level-holds rule s place l k =
    let csnp = at_circuit s place (pull_csnp s place l) in
    let lsps = pull_lsps csnp place l in
    let two : Holds rule lsps.router = pull_lsps-holds rule csnp place l
    (at_circuit-holds rule s place (pull_csnp s place l) k (λ c. pull_csnp-holds rule s place l c k)) in
    choose (λ (t : Sending). Holds rule t.router) (has (book_of s.router l).opened place) (at_circuit lsps place (pull_psnp lsps place l)) s
    (λ _. at_circuit-holds rule lsps place (pull_psnp lsps place l) two (λ c. pull_psnp-holds rule lsps place l c two))
    (λ _. k)

pull-holds : (rule : Rule) (r : Router) (place : ℕ) → Holds rule r → Holds rule (pull r place).router
unfolding pull
pull-holds rule r place k =
    let start : Sending = record { router = r; out = [] } in
    let one = at_circuit start place (pull_hello start place) in
    let two = pull_level one place level.One in
    pull_level-holds rule two place level.Two (pull_level-holds rule one place level.One
    (at_circuit-holds rule start place (pull_hello start place) k (λ c. pull_hello-holds rule start place c k)))

-- ---- a datagram

-- what isn't dropped came on an open circuit
open-of : (a b : Bool) (rest : Option DropName) → (if not (a && b) then Some NoAdjacency else rest) ≡ None → a ≡ true
open-of true b rest e = refl
open-of false b rest e = absurd (cc)

greeted-holds : (rule : Rule) (r : Router) (place : ℕ) (c : Circuit) (h : Hello) (s : Option Handshake) → Holds rule r → Holds rule (greeted r place c h s)
greeted-holds rule r place c h None k = k
greeted-holds rule r place c h (Some s) k = take_point-holds rule r place c h s k

taken-holds : (rule : Rule) (given : Given) (r : Router) (place : ℕ) (c : Circuit) (m : Message) → drop_of r place c m ≡ None → Holds rule r
    → Holds rule (taken given r place c m).router
taken-holds rule given r place c (Refused cause) e k = k
taken-holds rule given r place c (PointHelloHeard h) e k = greeted-holds rule r place c h h.handshake k
taken-holds rule given r place c (LanHelloHeard l h) e k = take_lan-holds rule r place c l h k
taken-holds rule given r place c (LspHeard l from h) e k =
    let s : LevelState = level_of r l in
    let o : has s.book.opened place ≡ true = open-of (has s.book.opened place) (is_some (sender_of c l from)) _ e in
    on-level rule r l _ k (whole rule s.book.opened _
    (take_lsp-held rule s.book.opened (scene_of given r l) s place (whose_of r.config.system s h.id) h o (k.on l)))
taken-holds rule given r place c (SnpHeard l from source range entries) e k =
    let s : LevelState = level_of r l in
    let o : has s.book.opened place ≡ true = open-of (has s.book.opened place) (is_from (sender_of c l from) source) _ e in
    on-level rule r l _ k (whole rule s.book.opened _
    (take_snp-held rule s.book.opened (scene_of given r l) s r.config.system place range entries o (k.on l)))

settled-holds : (rule : Rule) (o : Outcome) → Holds rule o.router → Holds rule (settled o).router
settled-holds rule o k = aside rule o.router (settled o).router refl k

take_or_drop-holds : (rule : Rule) (given : Given) (r : Router) (place : ℕ) (c : Circuit) (m : Message) (drop : Option DropName) → drop_of r place c m ≡ drop
    → Holds rule r → Holds rule (take_or_drop given r place c m drop).router
take_or_drop-holds rule given r place c m (Some cause) e k = aside rule r _ refl k
take_or_drop-holds rule given r place c m None e k = settled-holds rule (taken given r place c m) (taken-holds rule given r place c m e k)

take-holds : (rule : Rule) (given : Given) (r : Router) (place : ℕ) (m : Message) (c : Option Circuit) → Holds rule r
    → Holds rule (receiving.take given r place m c).router
take-holds rule given r place m None k = k
take-holds rule given r place m (Some c) k = take_or_drop-holds rule given r place c m (drop_of r place c m) refl k

-- ---- the step

with_metric-holds : (rule : Rule) (r : Router) (place metric : ℕ) (c : Option Circuit) → Holds rule r → Holds rule (with_metric r place metric c)
with_metric-holds rule r place metric None k = k
with_metric-holds rule r place metric (Some c) k = aside rule r _ refl k

pub step-holds : (rule : Rule) (given : Given) (r : Router) (event : Event) → Holds rule r → Holds rule (step given r event).router
unfolding step
step-holds rule given r Second k = aside rule (second given r) _ refl (second-holds rule given r k)
step-holds rule given r (Take place m) k = take-holds rule given r place m (nth r.circuits place) k
step-holds rule given r (Pull place) k = aside rule (pull r place).router _ refl (pull-holds rule r place k)
step-holds rule given r (Metric place metric) k =
    aside rule (with_metric r place metric (nth r.circuits place)) _ refl (with_metric-holds rule r place metric (nth r.circuits place) k)
step-holds rule given r (Overload on) k = aside rule r _ refl k
step-holds rule given r (Prefix prefix metric) k = aside rule (with_prefix r prefix metric) _ refl (aside rule r (with_prefix r prefix metric) refl k)
