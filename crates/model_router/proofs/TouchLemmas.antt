-- Which circuits are open after one is followed.
use Rattle.std.proofs.Common.{◌≡◌, ℕ, zero, suc, eqb, Bool, true, false, not, ◌&&◌, ◌||◌, List, [], ◌∷◌, Option, Some, if◌then◌else◌, refl, sym, ap, ◌∙◌, subst, arith}
use Rattle.std.specs.Option.{option_map}
use Rattle.std.proofs.lemmas.Bool.Decides.{nat_tests}
use Rattle.isis_base.specs.declared.level.Level.{Level}
use Rattle.isis_base.specs.declared.level.Level.TheVariants as level
use Rattle.model_router.specs.Both.{Both, at}
use Rattle.model_router.specs.Places.{nth, with_nth}
use Rattle.model_router.specs.Sets.{has}
use Rattle.model_router.specs.Books.{Book}
use Rattle.model_router.specs.Openings.{close, open_up, set_open}
use Rattle.model_router.specs.Routers.{Circuit, LevelState, Router, level_of, book_of, with_level, with_circuit, is_open}
use Rattle.model_router.specs.Hellos.{follow_circuit, follow}
use Rattle.model_router.specs.AdjacencyLaws.{opens, is_point, FollowsAdjacencies}
use Rattle.model_router.proofs.SetLemmas.{has-with_one, has-without}
use Rattle.model_router.proofs.BookLemmas.{choose, same-or}

pub nth-with_nth : {A : Type 0} → (xs : List A) (place : ℕ) (y : A) (q : ℕ) → nth (with_nth xs place y) q ≡ (if eqb place q then option_map (λ (_ : A). y) (nth xs place) else nth xs q)
nth-with_nth [] place y q = grind (arith, nat_tests)
nth-with_nth (x ∷ xs) zero y zero = refl
nth-with_nth (x ∷ xs) zero y (suc q) = grind (arith, nat_tests)
nth-with_nth (x ∷ xs) (suc place) y zero = grind (arith, nat_tests)
nth-with_nth (x ∷ xs) (suc place) y (suc q) = nth-with_nth xs place y q ∙ same-tests place q
  where
    same-tests : (place q : ℕ) → (if eqb place q then option_map (λ (_ : _). y) (nth xs place) else nth xs q) ≡ (if eqb (suc place) (suc q) then option_map (λ (_ : _). y) (nth xs place) else nth xs q)
    same-tests place q = grind (arith, nat_tests)

-- ---- what a book's circuits are after one is followed

opened-if : (b : Book) (place q : ℕ) → (place ≡ q → has b.opened q ≡ true) → has b.opened q ≡ (if eqb place q then true else has b.opened q)
opened-if b place q h = same-or (λ t. has b.opened q ≡ (if t then true else has b.opened q)) place q h (λ _. refl)

closed-if : (b : Book) (place q : ℕ) → (place ≡ q → has b.opened q ≡ false) → has b.opened q ≡ (if eqb place q then false else has b.opened q)
closed-if b place q h = same-or (λ t. has b.opened q ≡ (if t then false else has b.opened q)) place q h (λ _. refl)

open_up-opened : (b : Book) (place q : ℕ) → has (open_up b place).opened q ≡ (if eqb place q then true else has b.opened q)
unfolding open_up
open_up-opened b place q = has-with_one b.opened place q ∙ same-or (λ t. (t || has b.opened q) ≡ (if t then true else has b.opened q)) place q (λ _. refl) (λ _. refl)

close-opened : (b : Book) (place q : ℕ) → has (close b place).opened q ≡ (if eqb place q then false else has b.opened q)
unfolding close
close-opened b place q = has-without b.opened place q ∙ same-or (λ t. (not t && has b.opened q) ≡ (if t then false else has b.opened q)) place q (λ _. refl) (λ _. refl)

set_open-opened : (b : Book) (place : ℕ) (up : Bool) (q : ℕ) → has (set_open b place up).opened q ≡ (if eqb place q then up else has b.opened q)
set_open-opened b place true q =
    choose (λ (t : Book). has t.opened q ≡ (if eqb place q then true else has b.opened q)) (has b.opened place) b (open_up b place)
    (λ e. opened-if b place q (λ same. subst (λ (n : ℕ). has b.opened n ≡ true) same e)) (λ _. open_up-opened b place q)
set_open-opened b place false q =
    choose (λ (t : Book). has t.opened q ≡ (if eqb place q then false else has b.opened q)) (has b.opened place) (close b place) b
    (λ _. close-opened b place q) (λ e. closed-if b place q (λ same. subst (λ (n : ℕ). has b.opened n ≡ false) same e))

follow_circuit-opened : (anew : Bool) (b : Book) (place : ℕ) (up : Bool) (q : ℕ) → has (follow_circuit anew b place up).opened q ≡ (if eqb place q then up else has b.opened q)
follow_circuit-opened true b place up q = set_open-opened (close b place) place up q ∙ other (eqb place q) (close-opened b place q)
  where
    other : (t : Bool) → has (close b place).opened q ≡ (if t then false else has b.opened q) → (if t then up else has (close b place).opened q) ≡ (if t then up else has b.opened q)
    other true e = refl
    other false e = e
follow_circuit-opened false b place up q = set_open-opened b place up q

kinds-open_up : (b : Book) (place : ℕ) → (open_up b place).p2p ≡ b.p2p
unfolding open_up
kinds-open_up b place = refl

kinds-close : (b : Book) (place : ℕ) → (close b place).p2p ≡ b.p2p
unfolding close
kinds-close b place = refl

follow_circuit-kinds : (anew : Bool) (b : Book) (place : ℕ) (up : Bool) → (follow_circuit anew b place up).p2p ≡ b.p2p
follow_circuit-kinds anew b place up = set-kinds (if anew then close b place else b) up ∙ choose (λ (t : Book). t.p2p ≡ b.p2p) anew (close b place) b (λ _. kinds-close b place) (λ _. refl)
  where
    set-kinds : (b : Book) (up : Bool) → (set_open b place up).p2p ≡ b.p2p
    set-kinds b true = choose (λ (t : Book). t.p2p ≡ b.p2p) (has b.opened place) b (open_up b place) (λ _. refl) (λ _. kinds-open_up b place)
    set-kinds b false = choose (λ (t : Book). t.p2p ≡ b.p2p) (has b.opened place) (close b place) b (λ _. kinds-close b place) (λ _. refl)

-- ---- routers

-- two lists of circuits have the same adjacencies up
pub record Alike (a b : List Circuit) : Type 0 where
  pub opened : (place : ℕ) (l : Level) → opens (nth b place) l ≡ opens (nth a place) l
  pub points : (place : ℕ) → is_point (nth b place) ≡ is_point (nth a place)

pub touch-alike : (r t : Router) → t.levels ≡ r.levels → Alike r.circuits t.circuits → FollowsAdjacencies r → FollowsAdjacencies t
touch-alike r t e a h = record {
  opened = λ l place. ap (λ (levels : Both LevelState). has (at levels l).book.opened place) e ∙ h.opened l place ∙ sym (a.opened place l);
  points = λ l place. ap (λ (levels : Both LevelState). has (at levels l).book.p2p place) e ∙ h.points l place ∙ sym (a.points place);
}

pub touch-level : (r : Router) (l : Level) (s : LevelState) → s.book.opened ≡ (level_of r l).book.opened → s.book.p2p ≡ (level_of r l).book.p2p → FollowsAdjacencies r → FollowsAdjacencies (with_level r l s)
touch-level r l s e k h = record { opened = λ m place. opened-in l m place e; points = λ m place. points-in l m place k }
  where
    opened-in : (l m : Level) (place : ℕ) → s.book.opened ≡ (level_of r l).book.opened → has (book_of (with_level r l s) m).opened place ≡ opens (nth r.circuits place) m
    opened-in level.One level.One place e = ap (λ (n : ℕ). has n place) e ∙ h.opened level.One place
    opened-in level.One level.Two place e = h.opened level.Two place
    opened-in level.Two level.One place e = h.opened level.One place
    opened-in level.Two level.Two place e = ap (λ (n : ℕ). has n place) e ∙ h.opened level.Two place

    points-in : (l m : Level) (place : ℕ) → s.book.p2p ≡ (level_of r l).book.p2p → has (book_of (with_level r l s) m).p2p place ≡ is_point (nth r.circuits place)
    points-in level.One level.One place e = ap (λ (n : ℕ). has n place) e ∙ h.points level.One place
    points-in level.One level.Two place e = h.points level.Two place
    points-in level.Two level.One place e = h.points level.One place
    points-in level.Two level.Two place e = ap (λ (n : ℕ). has n place) e ∙ h.points level.Two place

-- a circuit is set and both books follow it
pub touch-follow : (r : Router) (anew : Bool) (place : ℕ) (old c : Circuit) → nth r.circuits place ≡ Some old → c.lan ≡ old.lan → FollowsAdjacencies r → FollowsAdjacencies (follow (with_circuit r place c) anew place c)
touch-follow r anew place old c e lan h = record { opened = opened-in; points = points-in }
  where
    t : Router
    t = follow (with_circuit r place c) anew place c

    here : (q : ℕ) → nth t.circuits q ≡ (if eqb place q then Some c else nth r.circuits q)
    here q = nth-with_nth r.circuits place c q ∙ ap (λ (o : Option Circuit). if eqb place q then option_map (λ (_ : Circuit). c) o else nth r.circuits q) e

    joined : (l : Level) (q : ℕ) → has (book_of r l).opened q ≡ opens (nth r.circuits q) l → (if eqb place q then is_open c l else has (book_of r l).opened q) ≡ opens (if eqb place q then Some c else nth r.circuits q) l
    joined l q k = same-or (λ b. (if b then is_open c l else has (book_of r l).opened q) ≡ opens (if b then Some c else nth r.circuits q) l) place q (λ _. refl) (λ _. k)

    opened-in : (l : Level) (q : ℕ) → has (book_of t l).opened q ≡ opens (nth t.circuits q) l
    opened-in level.One q = follow_circuit-opened anew (book_of r level.One) place _ q ∙ joined level.One q (h.opened level.One q) ∙ ap (λ (o : Option Circuit). opens o level.One) (sym (here q))
    opened-in level.Two q = follow_circuit-opened anew (book_of r level.Two) place _ q ∙ joined level.Two q (h.opened level.Two q) ∙ ap (λ (o : Option Circuit). opens o level.Two) (sym (here q))

    same-point : (q : ℕ) → is_point (nth r.circuits q) ≡ is_point (nth t.circuits q)
    same-point q = sym (ap is_point (here q) ∙ same-or (λ b. is_point (if b then Some c else nth r.circuits q) ≡ is_point (nth r.circuits q)) place q (λ same. ap not lan ∙ sym (ap is_point e) ∙ ap (λ (n : ℕ). is_point (nth r.circuits n)) same) (λ _. refl))

    points-in : (l : Level) (q : ℕ) → has (book_of t l).p2p q ≡ is_point (nth t.circuits q)
    points-in level.One q = ap (λ (n : ℕ). has n q) (follow_circuit-kinds anew (book_of r level.One) place _) ∙ h.points level.One q ∙ same-point q
    points-in level.Two q = ap (λ (n : ℕ). has n q) (follow_circuit-kinds anew (book_of r level.Two) place _) ∙ h.points level.Two q ∙ same-point q

-- ---- circuits that differ in counters alone

pub alike-refl : (a : List Circuit) → Alike a a
alike-refl a = record { opened = λ place l. refl; points = λ place. refl }

pub alike-cons : (x y : Circuit) (xs ys : List Circuit) → ((l : Level) → is_open y l ≡ is_open x l) → y.lan ≡ x.lan → Alike xs ys → Alike (x ∷ xs) (y ∷ ys)
alike-cons x y xs ys e k a = record { opened = opened-in; points = points-in }
  where
    opened-in : (place : ℕ) (l : Level) → opens (nth (y ∷ ys) place) l ≡ opens (nth (x ∷ xs) place) l
    opened-in zero l = e l
    opened-in (suc place) l = a.opened place l

    points-in : (place : ℕ) → is_point (nth (y ∷ ys) place) ≡ is_point (nth (x ∷ xs) place)
    points-in zero = ap not k
    points-in (suc place) = a.points place

pub alike-set : (xs : List Circuit) (place : ℕ) (old c : Circuit) → nth xs place ≡ Some old → ((l : Level) → is_open c l ≡ is_open old l) → c.lan ≡ old.lan → Alike xs (with_nth xs place c)
alike-set [] place old c e k lan = alike-refl []
alike-set (x ∷ xs) zero old c e k lan =
    let same : x ≡ old = cc in
    alike-cons x c xs xs (λ l. k l ∙ ap (λ (d : Circuit). is_open d l) (sym same)) (lan ∙ ap (λ (d : Circuit). d.lan) (sym same)) (alike-refl xs)
alike-set (x ∷ xs) (suc place) old c e k lan = alike-cons x x xs (with_nth xs place c) (λ l. refl) refl (alike-set xs place old c e k lan)
