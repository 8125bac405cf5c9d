-- Each deed keeps cells in rising order of LSP ID, and then what stands in the list is what is found.
use Rattle.std.proofs.Common.{◌≡◌, ℕ, ◌+◌, ◌<◌, ◌≤◌, eqb, nat_lt, List, [], ◌∷◌, Option, Some, None, if◌then◌else◌, refl, ◌∙◌, subst, arith, le_trans, zero-le}
use Rattle.std.proofs.lemmas.Bool.Decides.{nat_tests}
use Rattle.std.specs.List.{AllByRecursion}
use Rattle.model_router.specs.Maps.{find, put, erase, set_at, each}
use Rattle.model_router.specs.Sorted.{RisesFrom}
use Rattle.model_router.specs.Cells.{Cell, Heard}
use Rattle.model_router.specs.Books.{Book, cell_at, set_cell}
use Rattle.model_router.specs.LspTable.{hear_lsp}
use Rattle.model_router.specs.SnpTable.{SnpEntry, hear_entry, hear_range}
use Rattle.model_router.specs.Openings.{close, open_up}
use Rattle.model_router.specs.Routers.{LevelState}
use Rattle.model_router.specs.OwnLsps.{install, retire}
use Rattle.model_router.specs.Ageing.{wait_less, age_one, age_cell}
use Rattle.model_router.specs.Pulls.{sent, answered}
use Rattle.model_router.specs.Deeds.{Hearing, Way, Still, Then, Hear, Let, Entry, Range, Install, Retire, Age, Own, Wait, Sends, Answers, Course, Goes, Next, Closes, Opens}
use Rattle.model_router.proofs.BookLemmas.{test}

rises-weaken : {V : Type 0} → (m : List (ℕ × V)) (least less : ℕ) → less ≤ least → RisesFrom least m → RisesFrom less m
rises-weaken [] least less h r = tt
rises-weaken (p ∷ m) least less h r = (le_trans h r.0, r.1)

pub put-rises : {V : Type 0} → (m : List (ℕ × V)) (least k : ℕ) (v : V) → least ≤ k → RisesFrom least m → RisesFrom least (put m k v)
unfolding put
put-rises [] least k v h r = (h, tt)
put-rises {V} (p ∷ m) least k v h r =
    test (λ t. eqb p.0 k ≡ t → RisesFrom {V = V} least (if t then (k, v) ∷ m else (if nat_lt k p.0 then (k, v) ∷ p ∷ m else p ∷ put m k v))) (eqb p.0 k)
    (λ _ e. (h, let same : p.0 ≡ k = grind (arith, nat_tests) in subst (λ (n : ℕ). RisesFrom (n + 1) m) same r.1))
    (λ _ e. test (λ t. nat_lt k p.0 ≡ t → RisesFrom {V = V} least (if t then (k, v) ∷ p ∷ m else p ∷ put m k v)) (nat_lt k p.0)
    (λ _ l. let below : k < p.0 = grind (arith, nat_tests) in (h, (omega (arith, below), r.1)))
    (λ _ l. (r.0, put-rises m (p.0 + 1) k v (grind (arith, nat_tests)) r.1)) refl) refl

pub erase-rises : {V : Type 0} → (m : List (ℕ × V)) (least k : ℕ) → RisesFrom least m → RisesFrom least (erase m k)
unfolding erase
erase-rises [] least k r = tt
erase-rises {V} (p ∷ m) least k r =
    test (λ t. RisesFrom {V = V} least (if t then erase m k else p ∷ erase m k)) (eqb p.0 k)
    (λ _. rises-weaken (erase m k) (p.0 + 1) least (let h = r.0 in omega arith) (erase-rises m (p.0 + 1) k r.1))
    (λ _. (r.0, erase-rises m (p.0 + 1) k r.1))

set_at-rises : {V : Type 0} → (m : List (ℕ × V)) (k : ℕ) (v : Option V) → RisesFrom 0 m → RisesFrom 0 (set_at m k v)
set_at-rises m k (Some v) r = put-rises m 0 k v zero-le r
set_at-rises m k None r = erase-rises m 0 k r

each-rises : {V W : Type 0} → (f : ℕ → V → W) (m : List (ℕ × V)) (least : ℕ) → RisesFrom least m → RisesFrom least (each f m)
unfolding each
each-rises f [] least r = tt
each-rises f (p ∷ m) least r = (r.0, each-rises f m (p.0 + 1) r.1)

find-below : {V : Type 0} → (m : List (ℕ × V)) (least q : ℕ) → RisesFrom least m → q < least → find m q ≡ None
find-below [] least q r h = refl
find-below (p ∷ m) least q r h = let k = r.0 in grind (arith, nat_tests, k, find-below m (p.0 + 1) q r.1)

-- in a sorted map each pair's value is found by its key
pub all-found : {V : Type 0} → (m : List (ℕ × V)) (least : ℕ) → RisesFrom least m → AllByRecursion (λ (p : ℕ × V). find m p.0 ≡ Some p.1) m
all-found m least r = later m m least r (λ q h. refl)
  where
    later : {V : Type 0} → (whole m : List (ℕ × V)) (least : ℕ) → RisesFrom least m → ((q : ℕ) → least ≤ q → find whole q ≡ find m q) → AllByRecursion (λ (p : ℕ × V). find whole p.0 ≡ Some p.1) m
    later whole [] least r same = tt
    later whole (p ∷ m) least r same =
        (same p.0 r.0 ∙ here p m, later whole m (p.0 + 1) r.1 (λ q h. same q (le_trans r.0 (omega arith)) ∙ past p m q h))
      where
        here : {V : Type 0} → (p : ℕ × V) (m : List (ℕ × V)) → find (p ∷ m) p.0 ≡ Some p.1
        here p m = grind (arith, nat_tests)

        past : {V : Type 0} → (p : ℕ × V) (m : List (ℕ × V)) (q : ℕ) → p.0 + 1 ≤ q → find (p ∷ m) q ≡ find m q
        past p m q h = grind (arith, nat_tests)

set_cell-rises : (b : Book) (id : ℕ) (c : Option Cell) → RisesFrom 0 b.cells → RisesFrom 0 (set_cell b id c).cells
unfolding set_cell
set_cell-rises b id c r = set_at-rises b.cells id c r

hear_lsp-rises : (b : Book) (place : ℕ) (w : _) (h : Heard) → RisesFrom 0 b.cells → RisesFrom 0 (hear_lsp b place w h).cells
unfolding hear_lsp
hear_lsp-rises b place w h r = set_cell-rises b h.id _ r

hear_entry-rises : (b : Book) (place : ℕ) (w : _) (h : SnpEntry) → RisesFrom 0 b.cells → RisesFrom 0 (hear_entry b place w h).cells
unfolding hear_entry
hear_entry-rises b place w h r = set_cell-rises b h.id _ r

install-rises : (s : LevelState) (id : ℕ) (contents : _) (c : Cell) → RisesFrom 0 s.book.cells → RisesFrom 0 (install s id contents c).book.cells
unfolding install
install-rises s id contents c r = set_cell-rises s.book id _ r

retire-rises : (s : LevelState) (id : ℕ) (c : Cell) → RisesFrom 0 s.book.cells → RisesFrom 0 (retire s id c).book.cells
unfolding retire
retire-rises s id c r = set_cell-rises s.book id _ r

age_cell-rises : (s : LevelState) (id : ℕ) (c : Option Cell) → RisesFrom 0 s.book.cells → RisesFrom 0 (age_cell s id c).book.cells
age_cell-rises s id None r = r
age_cell-rises s id (Some c) r = set_cell-rises s.book id _ r

age_one-rises : (s : LevelState) (id : ℕ) → RisesFrom 0 s.book.cells → RisesFrom 0 (age_one s id).book.cells
unfolding age_one
age_one-rises s id r = age_cell-rises s id (cell_at s.book id) r

each-book : (b : Book) → RisesFrom 0 b.cells → (RisesFrom 0 (wait_less b).cells) × ((place : ℕ) → RisesFrom 0 (sent b place).cells) × ((place : ℕ) → RisesFrom 0 (answered b place).cells) × ((place : ℕ) → RisesFrom 0 (close b place).cells) × ((place : ℕ) → RisesFrom 0 (open_up b place).cells) × ((place start end : ℕ) (entries : List SnpEntry) → RisesFrom 0 (hear_range b place start end entries).cells)
unfolding wait_less sent answered close open_up hear_range
each-book b r = (each-rises _ b.cells 0 r, λ place. each-rises _ b.cells 0 r, λ place. each-rises _ b.cells 0 r, λ place. each-rises _ b.cells 0 r, λ place. each-rises _ b.cells 0 r, λ place start end entries. each-rises _ b.cells 0 r)

pub way-rises : (heard : Hearing) (a b : LevelState) → Way heard a b → RisesFrom 0 a.book.cells → RisesFrom 0 b.book.cells
way-rises heard a b (Still s) r = r
way-rises heard a c (Then _ b _ f g) r = way-rises heard b c g (way-rises heard a b f r)
way-rises heard a b (Hear s place w h k named src good) r = hear_lsp-rises s.book place w h r
way-rises heard a b (Let s id) r = r
way-rises heard a b (Entry s place w h k named good) r = hear_entry-rises s.book place w h r
way-rises heard a b (Range s place start end entries) r = (each-book s.book r).5 place start end entries
way-rises heard a b (Install s id contents cell k src good) r = install-rises s id contents cell r
way-rises heard a b (Retire s id cell k dead made good) r = retire-rises s id cell r
way-rises heard a b (Age s id) r = age_one-rises s id r
way-rises heard a b (Own s own) r = r
way-rises heard a b (Wait s) r = (each-book s.book r).0
way-rises heard a b (Sends s place) r = (each-book s.book r).1 place
way-rises heard a b (Answers s place stirs) r = (each-book s.book r).2 place

pub course-rises : (heard : Hearing) (a b : LevelState) → Course heard a b → RisesFrom 0 a.book.cells → RisesFrom 0 b.book.cells
course-rises heard a b (Goes _ _ w) r = way-rises heard a b w r
course-rises heard a c (Next _ b _ f g) r = course-rises heard b c g (course-rises heard a b f r)
course-rises heard a b (Closes s place stirs) r = (each-book s.book r).3 place
course-rises heard a b (Opens s place) r = (each-book s.book r).4 place
