-- What was seen before changes nothing of what is remembered.
use Rattle.std.proofs.Common.{◌≡◌, ℕ, ◌/◌, ◌==◌, nat_lt, ◌&&◌, ◌||◌, inl, inr, Bool, true, false, List, [], ◌∷◌, drop, bytes_eq, Option, Some, None, if◌then◌else◌, refl, sym, ap, ◌∙◌, subst, arith}
use Rattle.std.specs.List.{AllByRecursion}
use Rattle.std.proofs.lemmas.Bool.Decides.{nat_tests}
use Rattle.std.proofs.lemmas.Slice.Eq.{bytes_eq-Decides}
use Rattle.isis_base.specs.declared.level.Level.{Level}
use Rattle.model_router.specs.Maps.{find}
use Rattle.model_router.specs.Ranks.{is_live, number_of}
use Rattle.model_router.specs.Cells.{Cell}
use Rattle.model_router.specs.Books.{cell_at}
use Rattle.model_router.specs.Deeds.{Content, content_of}
use Rattle.model_router.specs.LetGos.{with_id}
use Rattle.model_router.specs.Routers.{Contents, Router, book_of}
use Rattle.model_router.specs.OwnLsps.{same_contents}
use Rattle.model_router.specs.Sorted.{RisesFrom}
use Rattle.model_router.specs.ContentLaws.{SameKey}
use Rattle.model_router.proofs.RisingLemmas.{all-found}
use Rattle.lab_facts.specs.Joined.{In}
use Rattle.lab_facts.specs.Sightings.{Sighting, sighting, is_own, own_lsps, after, sightings_of, earlier, first_of, doubled_with, doubled_of, Memory, Remembers}
use Rattle.lab_facts.specs.Seen.{IsSeen}
use Rattle.lab_facts.proofs.OnceLemmas.{has-own}

-- ---- an LSP ID in a list in order

abbrev has : List ℕ → ℕ → Bool
has [] m = false
has (x ∷ ids) m = if x == m then true else (if nat_lt m x then false else has ids m)

has-with : (ids : List ℕ) (n m : ℕ) → has (with_id ids n) m ≡ (n == m || has ids m)
has-with [] n m = grind (arith, nat_tests)
has-with (x ∷ ids) n m = grind (arith, nat_tests, has-with ids n m)

with-has : (ids : List ℕ) (m : ℕ) → with_id ids m ≡ (if has ids m then ids else with_id ids m)
with-has [] m = refl
with-has (x ∷ ids) m = grind (arith, nat_tests, with-has ids m)

held-with : (ids : List ℕ) (m : ℕ) → has ids m ≡ true → with_id ids m ≡ ids
held-with ids m e = with-has ids m ∙ ap (λ (t : Bool). if t then ids else with_id ids m) e

-- ---- the first contents stay

eq-self : (n : ℕ) → (n == n) ≡ true
eq-self n = grind (arith, nat_tests)

same-first : (s : Sighting) (o : Option Contents) → (c : Contents) × (earlier o (if s.id == s.id && s.number == s.number then Some s.contents else None) ≡ Some c)
same-first s None = (s.contents, ap (λ (t : Bool). if t && s.number == s.number then Some s.contents else None) (eq-self s.id) ∙ ap (λ (t : Bool). if t then Some s.contents else None) (eq-self s.number))
same-first s (Some c) = (c, refl)

later-first : (s x : Sighting) (o : Option Contents) (c : Contents) → o ≡ Some c → earlier o (if x.id == s.id && x.number == s.number then Some x.contents else None) ≡ Some c
later-first s x None c e = absurd (cc)
later-first s x (Some d) c e = e

-- what was seen has first contents
first-there : (s : Sighting) (seen : List Sighting) → In s seen → (c : Contents) × (first_of seen s.id s.number ≡ Some c)
unfolding first_of
first-there s [] i = absurd i
first-there s (x ∷ seen) (inl e) = subst (λ (y : Sighting). (c : Contents) × (earlier (first_of seen s.id s.number) (if y.id == s.id && y.number == s.number then Some y.contents else None) ≡ Some c)) e (same-first s (first_of seen s.id s.number))
first-there s (x ∷ seen) (inr i) = let h = first-there s seen i in (h.0, later-first s x (first_of seen s.id s.number) h.0 h.1)

first-stays : (s : Sighting) (seen : List Sighting) → In s seen → (id number : ℕ) → first_of (s ∷ seen) id number ≡ first_of seen id number
unfolding first_of
first-stays s seen i id number = by (s.id == id) (s.number == number) refl refl
  where
    none-later : (o : Option Contents) → earlier o None ≡ o
    none-later None = refl
    none-later (Some c) = refl

    some-first : (o : Option Contents) (c d : Contents) → o ≡ Some c → earlier o (Some d) ≡ o
    some-first None c d e = absurd (cc)
    some-first (Some x) c d e = refl

    by : (a b : Bool) → (s.id == id) ≡ a → (s.number == number) ≡ b → earlier (first_of seen id number) (if a && b then Some s.contents else None) ≡ first_of seen id number
    by true true e f =
        let h = first-there s seen i in
        let here : s.id ≡ id = grind (arith, nat_tests, e) in
        let there : s.number ≡ number = grind (arith, nat_tests, f) in
        some-first (first_of seen id number) h.0 s.contents (subst (λ (m : ℕ). first_of seen id m ≡ Some h.0) there (subst (λ (n : ℕ). first_of seen n s.number ≡ Some h.0) here h.1))
    by true false e f = none-later (first_of seen id number)
    by false b e f = none-later (first_of seen id number)

-- ---- what is doubled stays

same-self : (c : Contents) → same_contents c c ≡ true
same-self c = ap (λ (t : Bool). t && bytes_eq c.tlvs c.tlvs) (eq-self c.flags) ∙ (bytes_eq-Decides c.tlvs c.tlvs).1 refl

doubled-grows : (o : Option Contents) (x : Sighting) (ids : List ℕ) (m : ℕ) → has ids m ≡ true → has (doubled_with o x ids) m ≡ true
doubled-grows None x ids m e = e
doubled-grows (Some c) x ids m e = by (same_contents c x.contents)
  where
    or-true : (t : Bool) → (t || true) ≡ true
    or-true true = refl
    or-true false = refl

    by : (t : Bool) → has (if t then ids else with_id ids x.id) m ≡ true
    by true = e
    by false = has-with ids x.id m ∙ (ap (λ (t : Bool). x.id == m || t) e ∙ or-true (x.id == m))

-- an LSP ID that was seen otherwise than first is doubled already
doubled-there : (s : Sighting) (seen : List Sighting) (c : Contents) → In s seen → first_of seen s.id s.number ≡ Some c → same_contents c s.contents ≡ false → has (doubled_of seen) s.id ≡ true
unfolding first_of doubled_of
doubled-there s [] c i e other = absurd i
doubled-there s (x ∷ seen) c (inl here) e other = subst (λ (y : Sighting). has (doubled_with (first_of seen y.id y.number) y (doubled_of seen)) s.id ≡ true) here
    (by (first_of seen s.id s.number) (subst (λ (y : Sighting). earlier (first_of seen s.id s.number) (if y.id == s.id && y.number == s.number then Some y.contents else None) ≡ Some c) (sym here) e))
  where
    ids : List ℕ
    ids = doubled_of seen

    first-is : Some s.contents ≡ Some c → s.contents ≡ c
    first-is e = cc

    alone : (if s.id == s.id && s.number == s.number then Some s.contents else None) ≡ Some c → s.contents ≡ c
    alone e = first-is (sym (ap (λ (t : Bool). if t && s.number == s.number then Some s.contents else None) (eq-self s.id) ∙ ap (λ (t : Bool). if t then Some s.contents else None) (eq-self s.number)) ∙ e)

    clash : s.contents ≡ c → ⊥
    clash q = let same = same-self s.contents in let differs = subst (λ (d : Contents). same_contents d s.contents ≡ false) (sym q) other in cc

    put : (t : Bool) → t ≡ false → has (if t then ids else with_id ids s.id) s.id ≡ true
    put true e = absurd (cc)
    put false e = has-with ids s.id s.id ∙ ap (λ (t : Bool). t || has ids s.id) (eq-self s.id)

    by : (o : Option Contents) → earlier o (if s.id == s.id && s.number == s.number then Some s.contents else None) ≡ Some c → has (doubled_with o s ids) s.id ≡ true
    by None q = absurd (clash (alone q))
    by (Some d) q = put (same_contents d s.contents) (ap (λ (o : Option Contents). same_or_not o) q ∙ other)
      where
        same_or_not : Option Contents → Bool
        same_or_not None = true
        same_or_not (Some d) = same_contents d s.contents
doubled-there s (x ∷ seen) c (inr i) e other =
    let h = first-there s seen i in
    doubled-grows (first_of seen x.id x.number) x (doubled_of seen) s.id (doubled-there s seen c i (h.1 ∙ (sym (later-first s x (first_of seen s.id s.number) h.0 h.1) ∙ e)) other)

doubled-stays : (s : Sighting) (seen : List Sighting) → In s seen → doubled_of (s ∷ seen) ≡ doubled_of seen
unfolding doubled_of
doubled-stays s seen i = by (first_of seen s.id s.number) refl
  where
    kept : (c : Contents) → first_of seen s.id s.number ≡ Some c → (t : Bool) → same_contents c s.contents ≡ t → (if t then doubled_of seen else with_id (doubled_of seen) s.id) ≡ doubled_of seen
    kept c e true q = refl
    kept c e false q = held-with (doubled_of seen) s.id (doubled-there s seen c i e q)

    by : (o : Option Contents) → first_of seen s.id s.number ≡ o → doubled_with o s (doubled_of seen) ≡ doubled_of seen
    by None e = refl
    by (Some c) e = kept c e (same_contents c s.contents) refl

-- ---- what is remembered stays

remembers-seen : (memory : Memory) (s : Sighting) (seen : List Sighting) → In s seen → Remembers memory seen → Remembers memory (s ∷ seen)
remembers-seen memory s seen i h = record {
  first = λ id number less. h.first id number less ∙ sym (first-stays s seen i id number);
  doubled = h.doubled ∙ sym (doubled-stays s seen i);
}

all-later : (s : Sighting) (more seen : List Sighting) → AllByRecursion (λ (x : Sighting). In x seen) more → AllByRecursion (λ (x : Sighting). In x (s ∷ seen)) more
all-later s [] seen a = tt
all-later s (x ∷ more) seen a = (inr a.0, all-later s more seen a.1)

remembers-all : (memory : Memory) (more seen : List Sighting) → AllByRecursion (λ (s : Sighting). In s seen) more → Remembers memory seen → Remembers memory (after more seen)
remembers-all memory [] seen a h = h
remembers-all memory (s ∷ more) seen a h = remembers-all memory more (s ∷ seen) (all-later s more seen a.1) (remembers-seen memory s seen a.0 h)

-- a state of which all was seen
pub seen-remembered : (memory : Memory) (past : List Router) (level : Level) (r : Router) → IsSeen past level r → Remembers memory (sightings_of past level) → Remembers memory (sightings_of (r ∷ past) level)
seen-remembered memory past level r a h = remembers-all memory (own_lsps r.config.system (book_of r level).cells) (sightings_of past level) a h

-- ---- what a book's cells show

-- what holds of each live cell of the system's own holds of all that is seen of them
own-all : (P : Sighting → Type 0) (system : ℕ) (whole cells : List (ℕ × Cell)) → AllByRecursion (λ (p : ℕ × Cell). find whole p.0 ≡ Some p.1) cells → ((id : ℕ) (cell : Cell) → find whole id ≡ Some cell → id / 65536 ≡ system → is_live cell.rank ≡ true → P (sighting id cell)) → AllByRecursion P (own_lsps system cells)
own-all P system whole [] found f = tt
own-all P system whole (pair ∷ cells) found f = by (is_own system pair.0) (is_live pair.1.rank) refl refl (own-all P system whole cells found.1 f)
  where
    by : (a b : Bool) → is_own system pair.0 ≡ a → is_live pair.1.rank ≡ b → AllByRecursion P (own_lsps system cells) → AllByRecursion P (if a && b then sighting pair.0 pair.1 ∷ own_lsps system cells else own_lsps system cells)
    by true true own live rest = (f pair.0 pair.1 found.0 (grind (arith, nat_tests, own)) live, rest)
    by true false own live rest = rest
    by false b own live rest = rest

pub own-each : (P : Sighting → Type 0) (system : ℕ) (cells : List (ℕ × Cell)) → RisesFrom 0 cells → ((id : ℕ) (cell : Cell) → find cells id ≡ Some cell → id / 65536 ≡ system → is_live cell.rank ≡ true → P (sighting id cell)) → AllByRecursion P (own_lsps system cells)
own-each P system cells rises f = own-all P system cells cells (all-found cells 0 rises) f

-- ---- states

in-all : (P : Sighting → Type 0) (s : Sighting) (list : List Sighting) → In s list → AllByRecursion P list → P s
in-all P s [] i a = absurd i
in-all P s (x ∷ list) (inl e) a = subst P (sym e) a.0
in-all P s (x ∷ list) (inr i) a = in-all P s list i a.1

-- a live cell with the key and contents of one that was held
was-there : (old : Option Cell) (id : ℕ) (cell : Cell) → SameKey old (Some cell) → is_live cell.rank ≡ true → (c : Cell) × (old ≡ Some c) × (sighting id c ≡ sighting id cell) × (is_live c.rank ≡ true)
was-there None id cell same live = absurd (let e = same.content live in cc)
was-there (Some c) id cell same live = (c, refl, shown (sym same.rank) content_is, subst (λ (n : ℕ). is_live n ≡ true) same.rank live)
  where
    from-some : (a b : Content) → Some a ≡ Some b → b ≡ a
    from-some a b e = cc

    content_is : content_of c ≡ content_of cell
    content_is = from-some (content_of cell) (content_of c) (same.content live)

    seen_by : ℕ → Content → Sighting
    seen_by rank x = record { id = id; number = number_of rank; contents = record { flags = x.flags; tlvs = drop 27 x.octets } }

    shown : c.rank ≡ cell.rank → content_of c ≡ content_of cell → seen_by c.rank (content_of c) ≡ seen_by cell.rank (content_of cell)
    shown e f = ap (λ (n : ℕ). seen_by n (content_of c)) e ∙ ap (seen_by cell.rank) f

-- where keys and contents stood, all of it is seen still
pub seen-stays : (past : List Router) (level : Level) (r t : Router) → t.config.system ≡ r.config.system → RisesFrom 0 (book_of t level).cells → ((id : ℕ) → SameKey (cell_at (book_of r level) id) (cell_at (book_of t level) id)) → IsSeen past level r → IsSeen past level t
seen-stays past level r t system rises same h =
    own-each (λ (s : Sighting). In s (sightings_of past level)) t.config.system (book_of t level).cells rises (λ id cell e own live.
    let was = was-there (cell_at (book_of r level) id) id cell (subst (λ (o : Option Cell). SameKey (cell_at (book_of r level) id) o) e (same id)) live in
    subst (λ (s : Sighting). In s (sightings_of past level)) was.2
    (in-all (λ (s : Sighting). In s (sightings_of past level)) (sighting id was.0) (own_lsps r.config.system (book_of r level).cells)
    (has-own r.config.system id was.0 (book_of r level).cells (own ∙ system) was.1 was.3) h))
