-- What a step does to SSN, from the course of both levels; a second by its parts.
use Rattle.std.proofs.Common.{◌≡◌, ◌≢◌, ℕ, zero, suc, ◌<◌, ◌≤◌, ◌==◌, nat_lt, Bool, true, false, not, ◌&&◌, ◌||◌, ◌⊎◌, inl, inr, ⊎_elim, length, map, Option, Some, None, if◌then◌else◌, refl, sym, ap, ◌∙◌, subst, arith}
use Rattle.std.specs.Option.{option_map}
use Rattle.isis_base.specs.declared.level.Level.{Level}
use Rattle.isis_base.specs.declared.level.Level.TheVariants as level
use Rattle.model_router.specs.Places.{nth}
use Rattle.model_router.specs.Sets.{has}
use Rattle.model_router.specs.Cells.{Cell, srm_on}
use Rattle.model_router.specs.Books.{Book, cell_at, rank_at, ssn_of, ssn_at}
use Rattle.model_router.specs.LetGos.{lets_go}
use Rattle.model_router.specs.Openings.{close, open_up, set_open, silenced, marked}
use Rattle.model_router.specs.Routers.{Circuit, LevelState, Router, level_of, book_of, with_level, is_open}
use Rattle.model_router.specs.Givens.{Given}
use Rattle.model_router.specs.Wanted.{wanted}
use Rattle.model_router.specs.Ageing.{age}
use Rattle.model_router.specs.Seconds.{counted, waited, count_down, circuit_less, hold, hold_one, hold_all, age_level, age_both, renew_level, renew_both, second}
use Rattle.model_router.specs.Deeds.{Hearing, Way, Course, Goes, Next, Closes, Opens}
use Rattle.model_router.specs.Events.{Event, Second, Take, Pull, Metric, Overload, Prefix}
use Rattle.model_router.specs.Steps.{step}
use Rattle.model_router.specs.Hearings.{hearing, named_in, stirs}
use Rattle.model_router.specs.StepLaws.{SsnRises, SsnStays}
use Rattle.model_router.specs.Flooding.{Keeps}
use Rattle.model_router.proofs.MapLemmas.{find-each}
use Rattle.model_router.proofs.SetLemmas.{has-with_one, has-without}
use Rattle.model_router.proofs.BookLemmas.{choose, same-or}
use Rattle.model_router.proofs.WayLemmas.{way-keeps, course-keeps, way-opened}
use Rattle.model_router.proofs.LevelWays.{age-way, renew-way, all-mine}
use Rattle.model_router.proofs.LevelLemmas.{keeps-refl, keeps-trans}
use Rattle.model_router.proofs.RouterWays.{waited-way, hold_all-course}
use Rattle.model_router.proofs.StepWays.{step-course}
use Rattle.model_router.proofs.SsnLemmas.{WayOwes, way-owes, way-then, level-owes, off-owes}

-- ---- courses

still-kept : (x y : Bool) → (x ≡ true → y ≡ true) → y ≡ false → x ≡ false
still-kept true y h e = absurd (let k = h refl in cc)
still-kept false y h e = refl

pub course-owes : (heard : Hearing) (a b : LevelState) → Course heard a b → WayOwes heard a b
course-owes heard a b (Goes _ _ w) = way-owes heard a b w
course-owes heard a c (Next _ b _ f g) = way-then heard a b c (course-keeps heard a b f) (course-keeps heard b c g) (course-owes heard a b f) (course-owes heard b c g)
course-owes heard a b (Closes s place stirs) = off-owes heard s place stirs
course-owes heard a b (Opens s place) = level-owes heard s place

pub ssn-rises : (given : Given) (r : Router) (event : Event) → SsnRises event r (step given r event).router
ssn-rises given r event level place id k = (course-owes (hearing given r event level) (level_of r level) (level_of (step given r event).router level) ((step-course given r event).on level)).rises id place k

-- ---- a second

abbrev none : Hearing
none = record { rank = λ place id. 0; source = λ id rank content. Unit {0}; sane = ⊥; mine = λ id contents. Unit {0}; names = λ place id. ⊥; stirs = λ place. ⊥ }

-- a step that may close any circuit
abbrev any : Hearing
any = record { rank = λ place id. 0; source = λ id rank content. Unit {0}; sane = ⊥; mine = λ id contents. Unit {0}; names = λ place id. Unit {0}; stirs = λ place. Unit {0} }

-- what a part of a second does to a level that opens and closes nothing
record Part (a b : LevelState) : Type 0 where
  keeps : Keeps none.rank a b
  opened : b.book.opened ≡ a.book.opened
  stays : (id q : ℕ) → lets_go b.gone id ≡ false → ssn_at a.book id q ≡ true → rank_at b.book id ≡ rank_at a.book id → 0 < rank_at a.book id → ssn_at b.book id q ≡ true

way-part : (a b : LevelState) → Way none a b → Part a b
way-part a b w = record {
  keeps = way-keeps none a b w;
  opened = way-opened none a b w;
  stays = λ id q g k r s. ⊎_elim (λ m. m) (λ n. never n) ((way-owes none a b w).stays id q g k r s);
}
  where
    never : {A : Type 0} → ⊥ ⊎ ⊥ → A
    never (inl x) = absurd x
    never (inr x) = absurd x

part-then : (a b c : LevelState) → Part a b → Part b c → Part a c
part-then a b c f g = record {
  keeps = keeps-trans none.rank a b c f.keeps g.keeps;
  opened = g.opened ∙ f.opened;
  stays = λ id q gone k r s.
      let gb : lets_go b.gone id ≡ false = still-kept (lets_go b.gone id) (lets_go c.gone id) (g.keeps.grows id) gone in
      let one : rank_at a.book id ≤ rank_at b.book id = f.keeps.floods.rank id gb in
      let two : rank_at b.book id ≤ rank_at c.book id = g.keeps.floods.rank id gone in
      let mid : rank_at b.book id ≡ rank_at a.book id = omega (arith, one, two, r) in
      let last : rank_at c.book id ≡ rank_at b.book id = omega (arith, one, two, r) in
      g.stays id q gone (f.stays id q gb k mid s) last (omega (arith, mid, s));
}

part-same : (a : LevelState) → Part a a
part-same a = record { keeps = keeps-refl none.rank a; opened = refl; stays = λ id q g k r s. k }

record Parts (r t : Router) : Type 0 where
  on : (l : Level) → Part (level_of r l) (level_of t l)

on-level-part : (r : Router) (l : Level) (s : LevelState) → Part (level_of r l) s → Parts r (with_level r l s)
on-level-part r l s k = record { on = λ m. one l m k }
  where
    one : (l m : Level) → Part (level_of r l) s → Part (level_of r m) (level_of (with_level r l s) m)
    one level.One level.One k = k
    one level.One level.Two k = part-same (level_of r level.Two)
    one level.Two level.One k = part-same (level_of r level.One)
    one level.Two level.Two k = k

parts-then : (a b c : Router) → Parts a b → Parts b c → Parts a c
parts-then a b c f g = record { on = λ l. part-then (level_of a l) (level_of b l) (level_of c l) (f.on l) (g.on l) }

count_down-parts : (r : Router) → Parts r (count_down r)
unfolding count_down
count_down-parts r = record { on = each-level }
  where
    each-level : (l : Level) → Part (level_of r l) (level_of (record r { circuits = map counted r.circuits; levels = record { one = waited r.levels.one; two = waited r.levels.two } }) l)
    each-level level.One = way-part _ _ (waited-way none r.levels.one)
    each-level level.Two = way-part _ _ (waited-way none r.levels.two)

age_level-parts : (r : Router) (l : Level) → Parts r (age_level r l)
age_level-parts r l = on-level-part r l (age (level_of r l)) (way-part _ _ (age-way none (level_of r l)))

renew_level-parts : (given : Given) (before r : Router) (l : Level) → Parts r (renew_level given before r l)
renew_level-parts given before r l = on-level-part r l _ (way-part _ _ (renew-way none given r l (record { source = λ id number contents mine. tt; good = λ sane. absurd sane }) (level_of r l) (wanted given before r l) (λ sane. absurd sane) (all-mine (wanted given before r l))))

-- ---- holding times

ssn-open_up : (b : Book) (p id q : ℕ) → ssn_at (open_up b p) id q ≡ ssn_at b id q
unfolding open_up
ssn-open_up b p id q = ap (λ (o : Option Cell). ssn_of o q) (find-each (λ (_ : ℕ) (c : Cell). if has b.p2p p then marked c p else c) b.cells id) ∙ of-cell (cell_at b id)
  where
    of-cell : (o : Option Cell) → ssn_of (option_map (λ (c : Cell). if has b.p2p p then marked c p else c) o) q ≡ ssn_of o q
    of-cell None = refl
    of-cell (Some c) = choose (λ (d : Cell). has d.ssn q ≡ has c.ssn q) (has b.p2p p) (marked c p) c (λ _. choose (λ (d : Cell). has d.ssn q ≡ has c.ssn q) (nat_lt 0 c.rank) (srm_on c p) c (λ _. refl) (λ _. refl)) (λ _. refl)

ssn-silenced : (o : Option Cell) (p q : ℕ) → p ≢ q → ssn_of (option_map (λ (c : Cell). silenced c p) o) q ≡ ssn_of o q
ssn-silenced None p q other = refl
ssn-silenced (Some c) p q other = has-without c.ssn p q ∙ same-or (λ (t : Bool). (not t && has c.ssn q) ≡ has c.ssn q) p q (λ e. absurd (other e)) (λ _. refl)

ssn-close : (b : Book) (p id q : ℕ) → p ≢ q → ssn_at (close b p) id q ≡ ssn_at b id q
unfolding close
ssn-close b p id q other = ap (λ (o : Option Cell). ssn_of o q) (find-each (λ (_ : ℕ) (c : Cell). silenced c p) b.cells id) ∙ ssn-silenced (cell_at b id) p q other

ssn-closed : (b : Book) (p id q : ℕ) → has (close b p).opened q ≡ true → ssn_at b id q ≡ true → ssn_at (close b p) id q ≡ true
unfolding close
ssn-closed b p id q o k = same-or (λ (t : Bool). (not t && has b.opened q) ≡ true → ssn_at (close b p) id q ≡ true) p q (λ _ h. absurd (cc)) (λ other _. ssn-close b p id q other ∙ k) (sym (has-without b.opened p q) ∙ o)

opened-more : (b : Book) (p q : ℕ) → p ≢ q → has (open_up b p).opened q ≡ has b.opened q
unfolding open_up
opened-more b p q other = has-with_one b.opened p q ∙ same-or (λ (t : Bool). (t || has b.opened q) ≡ has b.opened q) p q (λ e. absurd (other e)) (λ _. refl)

opened-less : (b : Book) (p q : ℕ) → p ≢ q → has (close b p).opened q ≡ has b.opened q
unfolding close
opened-less b p q other = has-without b.opened p q ∙ same-or (λ (t : Bool). (not t && has b.opened q) ≡ has b.opened q) p q (λ e. absurd (other e)) (λ _. refl)

-- a circuit that is set open or closed: SSN on others stays, and on it where it is open afterwards
set_open-other : (b : Book) (p : ℕ) (up : Bool) (id q : ℕ) → p ≢ q → (has (set_open b p up).opened q ≡ has b.opened q) × (ssn_at (set_open b p up) id q ≡ ssn_at b id q)
set_open-other b p up id q other =
    choose P up (if has b.opened p then b else open_up b p) (if has b.opened p then close b p else b)
    (λ _. choose P (has b.opened p) b (open_up b p) (λ _. (refl, refl)) (λ _. (opened-more b p q other, ssn-open_up b p id q)))
    (λ _. choose P (has b.opened p) (close b p) b (λ _. (opened-less b p q other, ssn-close b p id q other)) (λ _. (refl, refl)))
  where
    P : Book → Type 0
    P t = (has t.opened q ≡ has b.opened q) × (ssn_at t id q ≡ ssn_at b id q)

set_open-same : (b : Book) (p : ℕ) (up : Bool) (id q : ℕ) → has (set_open b p up).opened q ≡ true → ssn_at b id q ≡ true → ssn_at (set_open b p up) id q ≡ true
set_open-same b p up id q =
    choose P up (if has b.opened p then b else open_up b p) (if has b.opened p then close b p else b)
    (λ _. choose P (has b.opened p) b (open_up b p) (λ _ _ k. k) (λ _ _ k. ssn-open_up b p id q ∙ k))
    (λ _. choose P (has b.opened p) (close b p) b (λ _ o k. ssn-closed b p id q o k) (λ _ _ k. k))
  where
    P : Book → Type 0
    P t = has t.opened q ≡ true → ssn_at b id q ≡ true → ssn_at t id q ≡ true

-- a hold sets both levels' books
hold-book : (r : Router) (p : ℕ) (c : Circuit) (l : Level) → book_of (hold r p c) l ≡ set_open (book_of r l) p (is_open (circuit_less c) l)
unfolding hold
hold-book r p c level.One = refl
hold-book r p c level.Two = refl

record Untouched (r t : Router) (l : Level) (id q : ℕ) : Type 0 where
  opened : has (book_of t l).opened q ≡ has (book_of r l).opened q
  ssn : ssn_at (book_of t l) id q ≡ ssn_at (book_of r l) id q

hold_one-other : (r : Router) (p : ℕ) (c : Option Circuit) (l : Level) (id q : ℕ) → p ≢ q → Untouched r (hold_one r p c) l id q
hold_one-other r p None l id q other = record { opened = refl; ssn = refl }
hold_one-other r p (Some c) l id q other =
    let k = set_open-other (book_of r l) p (is_open (circuit_less c) l) id q other in
    record {
      opened = ap (λ (b : Book). has b.opened q) (hold-book r p c l) ∙ k.0;
      ssn = ap (λ (b : Book). ssn_at b id q) (hold-book r p c l) ∙ k.1;
    }

hold_one-same : (r : Router) (p : ℕ) (c : Option Circuit) (l : Level) (id q : ℕ) → has (book_of (hold_one r p c) l).opened q ≡ true → ssn_at (book_of r l) id q ≡ true → ssn_at (book_of (hold_one r p c) l) id q ≡ true
hold_one-same r p None l id q o k = k
hold_one-same r p (Some c) l id q o k =
    let e = hold-book r p c l in
    ap (λ (b : Book). ssn_at b id q) e ∙ set_open-same (book_of r l) p (is_open (circuit_less c) l) id q (sym (ap (λ (b : Book). has b.opened q) e) ∙ o) k

hold_all-later : (r : Router) (n : ℕ) (l : Level) (id q : ℕ) → n ≤ q → Untouched r (hold_all r n) l id q
hold_all-later r zero l id q h = record { opened = refl; ssn = refl }
hold_all-later r (suc p) l id q h =
    let before = hold_all-later r p l id q (omega (arith, h)) in
    let first = hold_all r p in
    let here = hold_one-other first p (nth first.circuits p) l id q (λ e. absurd (omega (arith, h, e))) in
    record { opened = here.opened ∙ before.opened; ssn = here.ssn ∙ before.ssn }

hold_all-ssn : (r : Router) (n : ℕ) (l : Level) (id q : ℕ) → has (book_of (hold_all r n) l).opened q ≡ true → ssn_at (book_of r l) id q ≡ true → ssn_at (book_of (hold_all r n) l) id q ≡ true
hold_all-ssn r zero l id q o k = k
hold_all-ssn r (suc p) l id q o k = same-or (λ (t : Bool). (p == q) ≡ t → ssn_at (book_of (hold_all r (suc p)) l) id q ≡ true) p q
    (λ same _. hold_one-same first p (nth first.circuits p) l id q o ((hold_all-later r p l id q (omega (arith, same))).ssn ∙ k))
    (λ other _. let here = hold_one-other first p (nth first.circuits p) l id q other in
    here.ssn ∙ hold_all-ssn r p l id q (sym here.opened ∙ o) k) refl
  where
    first : Router
    first = hold_all r p

second-ssn : (given : Given) (r : Router) (l : Level) (id q : ℕ) → let t = second given r in ssn_at (book_of r l) id q ≡ true → has (book_of t l).opened q ≡ true → lets_go (level_of t l).gone id ≡ false → rank_at (book_of t l) id ≡ rank_at (book_of r l) id → 0 < rank_at (book_of r l) id → ssn_at (book_of t l) id q ≡ true
unfolding second
second-ssn given r l id q k o gone rank some =
    let one = count_down r in
    let two = hold_all one (length one.circuits) in
    let three = age_level two level.One in
    let four = age_both two in
    let five = renew_level given r four level.One in
    let last = renew_both given r four in
    let first : Part (level_of r l) (level_of one l) = (count_down-parts r).on l in
    let held : Keeps none.rank (level_of one l) (level_of two l) = course-keeps any _ _ ((hold_all-course (λ _. any) one (length one.circuits) (λ l place. tt)).on l) in
    let rest : Part (level_of two l) (level_of last l) = (parts-then two three last (age_level-parts two level.One) (parts-then three four last (age_level-parts three level.Two) (parts-then four five last (renew_level-parts given r four level.One) (renew_level-parts given r five level.Two)))).on l in
    let g2 : lets_go (level_of two l).gone id ≡ false = still-kept _ _ (rest.keeps.grows id) gone in
    let g1 : lets_go (level_of one l).gone id ≡ false = still-kept _ _ (held.grows id) g2 in
    let a : rank_at (book_of r l) id ≤ rank_at (book_of one l) id = first.keeps.floods.rank id g1 in
    let b : rank_at (book_of one l) id ≤ rank_at (book_of two l) id = held.floods.rank id g2 in
    let c : rank_at (book_of two l) id ≤ rank_at (book_of last l) id = rest.keeps.floods.rank id gone in
    let early : ssn_at (book_of one l) id q ≡ true = first.stays id q g1 k (omega (arith, a, b, c, rank)) some in
    let mid : ssn_at (book_of two l) id q ≡ true = hold_all-ssn one (length one.circuits) l id q (subst (λ (n : ℕ). has n q ≡ true) rest.opened o) early in
    rest.stays id q gone mid (omega (arith, a, b, c, rank)) (omega (arith, a, b, some))

-- ---- a step

of-course : (given : Given) (r : Router) (event : Event) → ((event ≡ Second) → ⊥) → SsnStays event r (step given r event).router
of-course given r event other l place id k o gone rank some named stirred =
    ⊎_elim (λ m. m) (λ why. absurd (never why)) ((course-owes (hearing given r event l) (level_of r l) (level_of (step given r event).router l) ((step-course given r event).on l)).stays id place gone k rank some)
  where
    never : (named_in event l place id ≡ true) ⊎ ((event ≡ Second) ⊎ (stirs event place ≡ true)) → ⊥
    never (inl n) = let m = named in cc
    never (inr (inl s)) = other s
    never (inr (inr s)) = let m = stirred in cc

ssn-second : (given : Given) (r : Router) → SsnStays Second r (second given r)
ssn-second given r l place id k o gone rank some named stirred = second-ssn given r l id place k o gone rank some

pub ssn-stays : (given : Given) (r : Router) (event : Event) → SsnStays event r (step given r event).router
unfolding step
ssn-stays given r Second = ssn-second given r
ssn-stays given r (Take place m) = of-course given r (Take place m) (λ e. absurd (cc))
ssn-stays given r (Pull place) = of-course given r (Pull place) (λ e. absurd (cc))
ssn-stays given r (Metric place metric) = of-course given r (Metric place metric) (λ e. absurd (cc))
ssn-stays given r (Overload on) = of-course given r (Overload on) (λ e. absurd (cc))
ssn-stays given r (Prefix prefix metric) = of-course given r (Prefix prefix metric) (λ e. absurd (cc))
