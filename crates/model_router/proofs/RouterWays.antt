-- What the parts of a step do to a router, as courses of both levels.
use Rattle.std.proofs.Common.{◌<◌, ◌^◌, ◌≡◌, ℕ, zero, suc, Bool, false, not, List, length, Option, Some, None, if◌then◌else◌, refl, sym, subst, ◌∙◌}
use Rattle.isis_base.specs.declared.level.Level.{Level}
use Rattle.isis_base.specs.declared.level.Level.TheVariants as level
use Rattle.std.specs.List.{AllByRecursion}
use Rattle.model_router.specs.Both.{Both, at, alone}
use Rattle.model_router.specs.Places.{nth}
use Rattle.model_router.specs.Sets.{has}
use Rattle.model_router.specs.Books.{Book}
use Rattle.model_router.specs.Adjacencies.{common_of, Handshake, Hello, is_same}
use Rattle.model_router.specs.Openings.{close, open_up, set_open}
use Rattle.model_router.specs.Routers.{Contents, Circuit, LevelState, Router, level_of, book_of, with_level, with_book, with_circuit, is_open}
use Rattle.model_router.specs.Hellos.{follow_circuit, follow, point_circuit, lan_circuit, take_point, take_lan}
use Rattle.model_router.specs.Givens.{Given}
use Rattle.model_router.specs.OwnLsps.{renew}
use Rattle.model_router.specs.Wanted.{wanted}
use Rattle.model_router.specs.Ageing.{wait_less, age}
use Rattle.model_router.specs.Seconds.{counted, circuit_less, waited, count_down, hold, hold_one, hold_all, age_level, age_both, renew_level, second}
use Rattle.model_router.specs.Deeds.{Hearing, Issues, with_this, Way, Still, Then, Own, Wait, Course, Goes, Next, Closes, Opens, Courses}
use Rattle.std.proofs.lemmas.List.{length-map}
use Rattle.model_router.proofs.ListLemmas.{length-with_nth}
use Rattle.model_router.proofs.BookLemmas.{choose}
use Rattle.model_router.proofs.LevelWays.{age-way, renew-way}

-- ---- openings

still : (heard : Hearing) (s : LevelState) → Course heard s s
still heard s = Goes s s (Still s)

pub set_open-course : (heard : Hearing) (s : LevelState) (place : ℕ) (up : Bool) → heard.stirs place → Course heard s (with_this s (set_open s.book place up))
set_open-course heard s place up stirs =
    let b = s.book in
    let P : Book → Type 0 = λ t. Course heard s (with_this s t) in
    choose P up (if has b.opened place then b else open_up b place) (if has b.opened place then close b place else b)
    (λ _. choose P (has b.opened place) b (open_up b place) (λ _. still heard s) (λ _. Opens s place))
    (λ _. choose P (has b.opened place) (close b place) b (λ _. Closes s place stirs) (λ _. still heard s))

follow_circuit-course : (heard : Hearing) (s : LevelState) (anew : Bool) (place : ℕ) (up : Bool) → heard.stirs place → Course heard s (with_this s (follow_circuit anew s.book place up))
follow_circuit-course heard s anew place up stirs =
    let first : Book = if anew then close s.book place else s.book in
    Next s (with_this s first) _
    (choose (λ (t : Book). Course heard s (with_this s t)) anew (close s.book place) s.book (λ _. Closes s place stirs) (λ _. still heard s))
    (set_open-course heard (with_this s first) place up stirs)

-- ---- both levels

pub both-refl : (heard : Level → Hearing) (r : Router) → Courses heard r r
both-refl heard r = record { on = λ l. still (heard l) (level_of r l) }

pub both-trans : (heard : Level → Hearing) (a b c : Router) → Courses heard a b → Courses heard b c → Courses heard a c
both-trans heard a b c f g = record { on = λ l. Next (level_of a l) (level_of b l) (level_of c l) (f.on l) (g.on l) }

-- one level changes
pub on-level : (heard : Level → Hearing) (r : Router) (l : Level) (s : LevelState) → Course (heard l) (level_of r l) s → Courses heard r (with_level r l s)
on-level heard r l s k = record { on = λ m. one l m k }
  where
    one : (l m : Level) → Course (heard l) (level_of r l) s → Course (heard m) (level_of r m) (level_of (with_level r l s) m)
    one level.One level.One k = k
    one level.One level.Two k = still (heard level.Two) (level_of r level.Two)
    one level.Two level.One k = still (heard level.One) (level_of r level.One)
    one level.Two level.Two k = k

-- what changes neither level keeps both
pub aside : (heard : Level → Hearing) (r t : Router) → t.levels ≡ r.levels → Courses heard r t
aside heard r t e = record { on = λ l. subst (λ (levels : Both LevelState). Course (heard l) (level_of r l) (at levels l)) (sym e) (still (heard l) (level_of r l)) }

pub follow-course : (heard : Level → Hearing) (r : Router) (anew : Bool) (place : ℕ) (c : Circuit) → ((l : Level) → (heard l).stirs place) → Courses heard r (follow r anew place c)
follow-course heard r anew place c stirs =
    let first = with_book r level.One (follow_circuit anew (book_of r level.One) place (is_open c level.One)) in
    both-trans heard r first _
    (on-level heard r level.One _ (follow_circuit-course (heard level.One) (level_of r level.One) anew place _ (stirs level.One)))
    (on-level heard first level.Two _ (follow_circuit-course (heard level.Two) (level_of first level.Two) anew place _ (stirs level.Two)))

pub take_point-course : (heard : Level → Hearing) (r : Router) (place : ℕ) (c : Circuit) (h : Hello) (s : Handshake) → ((l : Level) → (heard l).stirs place) → Courses heard r (take_point r place c h s)
unfolding take_point
take_point-course heard r place c h s stirs =
    let common = common_of r.config h in
    let new = point_circuit c common h s in
    both-trans heard r (with_circuit r place new) _ (aside heard r _ refl) (follow-course heard (with_circuit r place new) (not (is_same c.point.neighbour common h s.extended)) place new stirs)

pub take_lan-course : (heard : Level → Hearing) (r : Router) (place : ℕ) (c : Circuit) (l : Level) (h : Hello) → ((l : Level) → (heard l).stirs place) → Courses heard r (take_lan r place c l h)
unfolding take_lan
take_lan-course heard r place c l h stirs =
    let new = lan_circuit c l (alone l (common_of r.config h)) h in
    both-trans heard r (with_circuit r place new) _ (aside heard r _ refl) (follow-course heard (with_circuit r place new) false place new stirs)

-- ---- a second

pub waited-way : (heard : Hearing) (s : LevelState) → Way heard s (waited s)
waited-way heard s = (Then s (with_this s (wait_less s.book)) _ (Wait s) (Own (with_this s (wait_less s.book)) _))

count_down-course : (heard : Level → Hearing) (r : Router) → Courses heard r (count_down r)
unfolding count_down
count_down-course heard r = record { on = each-level }
  where
    each-level : (l : Level) → Course (heard l) (level_of r l) (at (record { one = waited r.levels.one; two = waited r.levels.two }) l)
    each-level level.One = Goes _ _ (waited-way (heard level.One) r.levels.one)
    each-level level.Two = Goes _ _ (waited-way (heard level.Two) r.levels.two)

hold-course : (heard : Level → Hearing) (r : Router) (place : ℕ) (c : Circuit) → ((l : Level) → (heard l).stirs place) → Courses heard r (hold r place c)
unfolding hold
hold-course heard r place c stirs =
    let new = circuit_less c in
    both-trans heard r (with_circuit r place new) _ (aside heard r _ refl) (follow-course heard (with_circuit r place new) false place new stirs)

hold_one-course : (heard : Level → Hearing) (r : Router) (place : ℕ) (c : Option Circuit) → ((l : Level) → (heard l).stirs place) → Courses heard r (hold_one r place c)
hold_one-course heard r place None stirs = both-refl heard r
hold_one-course heard r place (Some c) stirs = hold-course heard r place c stirs

pub hold_all-course : (heard : Level → Hearing) (r : Router) (count : ℕ) → ((l : Level) (place : ℕ) → (heard l).stirs place) → Courses heard r (hold_all r count)
hold_all-course heard r zero stirs = both-refl heard r
hold_all-course heard r (suc place) stirs =
    let first = hold_all r place in
    both-trans heard r first _ (hold_all-course heard r place stirs) (hold_one-course heard first place (nth first.circuits place) (λ l. stirs l place))

age_level-course : (heard : Level → Hearing) (r : Router) (l : Level) → Courses heard r (age_level r l)
age_level-course heard r l = on-level heard r l (age (level_of r l)) (Goes _ _ (age-way (heard l) (level_of r l)))

-- what is wanted has LSP IDs of one's own, which have eight octets where the step is sane
pub record Wants (heard : Hearing) (wants : List (ℕ × Contents)) : Type 0 where
  pub fits : heard.sane → AllByRecursion (λ (w : ℕ × Contents). w.0 < 2 ^ 64) wants
  pub mine : AllByRecursion (λ (w : ℕ × Contents). heard.mine w.0 w.1) wants

renew_level-course : (heard : Level → Hearing) (given : Given) (before r : Router) (l : Level) → Issues (heard l) given r l → Wants (heard l) (wanted given before r l) → Courses heard r (renew_level given before r l)
renew_level-course heard given before r l issues wants = on-level heard r l (renew given r l (level_of r l) (wanted given before r l)) (Goes _ _ (renew-way (heard l) given r l issues (level_of r l) (wanted given before r l) wants.fits wants.mine))

-- ---- what of a router a second keeps

count_down-config : (r : Router) → (count_down r).config ≡ r.config
unfolding count_down
count_down-config r = refl

count_down-circuits : (r : Router) → length (count_down r).circuits ≡ length r.circuits
unfolding count_down
count_down-circuits r = length-map r.circuits counted

hold-config : (r : Router) (place : ℕ) (c : Circuit) → (hold r place c).config ≡ r.config
unfolding hold
hold-config r place c = refl

hold-circuits : (r : Router) (place : ℕ) (c : Circuit) → length (hold r place c).circuits ≡ length r.circuits
unfolding hold
hold-circuits r place c = length-with_nth r.circuits place (circuit_less c)

hold_all-config : (r : Router) (count : ℕ) → (hold_all r count).config ≡ r.config
hold_all-config r zero = refl
hold_all-config r (suc place) = let first = hold_all r place in one first (nth first.circuits place) ∙ hold_all-config r place
  where
    one : (r : Router) (c : Option Circuit) → (hold_one r place c).config ≡ r.config
    one r None = refl
    one r (Some c) = hold-config r place c

pub hold_all-circuits : (r : Router) (count : ℕ) → length (hold_all r count).circuits ≡ length r.circuits
hold_all-circuits r zero = refl
hold_all-circuits r (suc place) = let first = hold_all r place in one first (nth first.circuits place) ∙ hold_all-circuits r place
  where
    one : (r : Router) (c : Option Circuit) → length (hold_one r place c).circuits ≡ length r.circuits
    one r None = refl
    one r (Some c) = hold-circuits r place c

pub second-course : (heard : Level → Hearing) (given : Given) → ((l : Level) (place : ℕ) → (heard l).stirs place) → (r : Router) → ((now : Router) (l : Level) → now.config ≡ r.config → Issues (heard l) given now l) → ((now : Router) (l : Level) → now.config ≡ r.config → length now.circuits ≡ length r.circuits → Wants (heard l) (wanted given r now l)) → Courses heard r (second given r)
unfolding second
second-course heard given stirs r issues wants =
    let one = count_down r in
    let two = hold_all one (length one.circuits) in
    let three = age_level two level.One in
    let four = age_both two in
    let five = renew_level given r four level.One in
    let config = hold_all-config one (length one.circuits) ∙ count_down-config r in
    let circuits = hold_all-circuits one (length one.circuits) ∙ count_down-circuits r in
    both-trans heard r one _ (count_down-course heard r) (
    both-trans heard one two _ (hold_all-course heard one (length one.circuits) stirs) (
    both-trans heard two three _ (age_level-course heard two level.One) (
    both-trans heard three four _ (age_level-course heard three level.Two) (
    both-trans heard four five _ (renew_level-course heard given r four level.One (issues four level.One config) (wants four level.One config circuits)) (renew_level-course heard given r five level.Two (issues five level.Two config) (wants five level.Two config circuits))))))
