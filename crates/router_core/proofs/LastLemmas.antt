-- What is seen of a level a second later: all that was, but for live entries whose time ends.
use Rattle.std.proofs.Common.{◌≡◌, ◌∙◌, ℕ, zero, suc, ◌+◌, ◌<◌, ◌==◌, ◌&&◌, ◌||◌, nat_le, nat_lt, Bool, true, false, not, List, [], ◌∷◌, length, Option, Some, None, option_map, refl, sym, ap, subst, if◌then◌else◌, arith}
use Rattle.std.specs.List.{AllByRecursion}
use Rattle.std.proofs.lemmas.Bool.{and_parts, eqb-true, ne_eqb}
use Rattle.std.proofs.lemmas.Bool.Decides.{nat_tests}
use Rattle.isis_base.specs.declared.level.Level.{Level}
use Rattle.isis_base.specs.declared.identifiers.LspId.{LspId}
use Rattle.isis_base.specs.Keys.{rank}
use Rattle.lsp_store.specs.declared.entry.Entry.{Entry}
use Rattle.lsp_store.specs.Databases.{Database}
use Rattle.model_router.specs.Maps.{find, each}
use Rattle.model_router.specs.Sets.{has}
use Rattle.model_router.specs.Places.{nth}
use Rattle.model_router.specs.Ranks.{is_live, number_of}
use Rattle.model_router.specs.Sorted.{RisesFrom}
use Rattle.model_router.specs.Cells.{Cell, flagged, purged}
use Rattle.model_router.specs.Books.{Book, cell_at, set_cell}
use Rattle.model_router.specs.Deeds.{Content}
use Rattle.model_router.specs.OwnLsps.{is_held}
use Rattle.model_router.specs.Openings.{close, marked, open_up, set_open}
use Rattle.model_router.specs.Ageing.{wait_less, less, aged, age_cell, age_one, age_all, age}
use Rattle.model_router.specs.Seconds.{waited}
use Rattle.model_router.specs.Routers.{Circuit, LevelState, is_open}
use Rattle.model_router.proofs.MapLemmas.{find-each, find-set_at}
use Rattle.model_router.proofs.RisingLemmas.{all-found}
use Rattle.flag_sync.specs.declared.flag_row.FlagRow.{FlagRow}
use Rattle.flag_sync.specs.BookStates.{BookState, book_of, cells_of}
use Rattle.flag_sync.specs.FlagRows.{cell_of}
use Rattle.router_core.specs.Asides.{seen}
use Rattle.router_core.specs.Calm.{all_last, AreLasting, is_ended, is_ending}
use Rattle.router_core.specs.Seconds.{follow_one, follow_first, level_later}
use Rattle.router_core.proofs.AsideLemmas.{seen-dead, seen-same}
use Rattle.router_core.proofs.CalmLemmas.{AreKept, each-kept, key-refl, kept-trans, set_open-kept}
use Rattle.router_core.proofs.MovedLemmas.{not-live}
use Rattle.router_core.proofs.RouteLemmas.{live-is}

-- ---- entries and their cells

ending-cell : (e : Entry) (c : Cell) → c.rank ≡ rank e.key → c.left ≡ e.left → not (is_ending e) ≡ true → is_ended c ≡ false
ending-cell e c key left lasts = (λ i. is_live (key i) && nat_lt (left i) 2) ∙ ap (λ (t : Bool). t && nat_lt e.left 2) (live-is e.key) ∙ not-true (is_ending e) lasts
  where
    not-true : (t : Bool) → not t ≡ true → t ≡ false
    not-true true e = sym e
    not-true false e = refl

last-cells : (entries : List (LspId × Entry)) (rows : List (LspId × FlagRow)) → all_last entries ≡ true → AllByRecursion (λ (p : ℕ × Cell). is_ended p.1 ≡ false) (cells_of entries rows)
last-cells [] rows e = tt
last-cells (pair ∷ entries) [] e = tt
last-cells (pair ∷ entries) (row ∷ rows) e =
    let parts = and_parts (not (is_ending pair.1)) (all_last entries) e in
    (ending-cell pair.1 (cell_of pair.1 row.1) refl refl parts.0, last-cells entries rows parts.1)

-- ---- what leaves what is seen, and the time of entries

abbrev pub left_of : Option Cell → ℕ
left_of None = 0
left_of (Some c) = c.left

each-rises : (f : ℕ → Cell → Cell) (m : List (ℕ × Cell)) (least : ℕ) → RisesFrom least m → RisesFrom least (each f m)
unfolding each
each-rises f [] least r = tt
each-rises f (p ∷ m) least r = (r.0, each-rises f m (p.0 + 1) r.1)

each-left : (f : ℕ → Cell → Cell) → ((id : ℕ) (c : Cell) → (f id c).left ≡ c.left) → (m : List (ℕ × Cell)) (n : ℕ) → left_of (find (each f m) n) ≡ left_of (find m n)
each-left f same m n = ap left_of (find-each f m n) ∙ of (find m n)
  where
    of : (o : Option Cell) → left_of (option_map (f n) o) ≡ left_of o
    of None = refl
    of (Some c) = same n c

pick-left : (t : Bool) (a b : Cell) (n : ℕ) → a.left ≡ n → b.left ≡ n → (if t then a else b).left ≡ n
pick-left true a b n e f = e
pick-left false a b n e f = f

-- whether a cell is held a second later, be it as a purge
abbrev pub cell_stays : Cell → Bool
cell_stays c = nat_le 2 c.left || is_live c.rank

-- how many are
abbrev pub cells_staying : List (ℕ × Cell) → ℕ
cells_staying [] = 0
cells_staying (p ∷ m) = (if cell_stays p.1 then 1 else 0) + cells_staying m

each-held : (f : ℕ → Cell → Cell) (m : List (ℕ × Cell)) (n : ℕ) → is_held (find (each f m) n) ≡ is_held (find m n)
each-held f m n = ap is_held (find-each f m n) ∙ of (find m n)
  where
    of : (o : Option Cell) → is_held (option_map (f n) o) ≡ is_held o
    of None = refl
    of (Some c) = refl

each-staying : (f : ℕ → Cell → Cell) → ((id : ℕ) (c : Cell) → (f id c).left ≡ c.left) → ((id : ℕ) (c : Cell) → (f id c).rank ≡ c.rank) → (m : List (ℕ × Cell)) → cells_staying (each f m) ≡ cells_staying m
unfolding each
each-staying f left rank [] = refl
each-staying f left rank (p ∷ m) =
    let of-left = left p.0 p.1 in
    let of-rank = rank p.0 p.1 in
    let rest = each-staying f left rank m in
    λ i. (if nat_le 2 (of-left i) || is_live (of-rank i) then 1 else 0) + rest i

pick-rank : (t : Bool) (a b : Cell) (n : ℕ) → a.rank ≡ n → b.rank ≡ n → (if t then a else b).rank ≡ n
pick-rank true a b n e f = e
pick-rank false a b n e f = f

-- a book in order of which the keys, contents and times are kept, and how many stay
pub record Still (a b : Book) : Type 0 where
  pub kept : AreKept a b
  pub left : (n : ℕ) → left_of (cell_at b n) ≡ left_of (cell_at a n)
  pub rises : RisesFrom 0 a.cells → RisesFrom 0 b.cells
  pub held : (n : ℕ) → is_held (cell_at b n) ≡ is_held (cell_at a n)
  pub staying : cells_staying b.cells ≡ cells_staying a.cells

still-refl : (a : Book) → Still a a
still-refl a = record { kept = λ id. key-refl (cell_at a id); left = λ n. refl; rises = λ r. r; held = λ n. refl; staying = refl }

still-trans : (a b c : Book) → Still a b → Still b c → Still a c
still-trans a b c p q = record {
  kept = kept-trans a b c p.kept q.kept;
  left = λ n. q.left n ∙ p.left n;
  rises = λ r. q.rises (p.rises r);
  held = λ n. q.held n ∙ p.held n;
  staying = q.staying ∙ p.staying;
}

wait-still : (b : Book) → Still b (wait_less b)
unfolding wait_less
wait-still b = record {
  kept = each-kept _ (λ id c. record { rank = refl; content = refl }) b.cells;
  left = each-left _ (λ id c. refl) b.cells;
  rises = each-rises _ b.cells 0;
  held = each-held _ b.cells;
  staying = each-staying _ (λ id c. refl) (λ id c. refl) b.cells;
}

marked-left : (place : ℕ) (c : Cell) → (marked c place).left ≡ c.left
marked-left place c = pick-left (nat_lt 0 c.rank) _ c c.left refl refl

close-left : (b : Book) (place n : ℕ) → left_of (cell_at (close b place) n) ≡ left_of (cell_at b n)
unfolding close
close-left b place n = each-left _ (λ id c. refl) b.cells n

close-rises : (b : Book) (place : ℕ) → RisesFrom 0 b.cells → RisesFrom 0 (close b place).cells
unfolding close
close-rises b place r = each-rises _ b.cells 0 r

open-left : (b : Book) (place n : ℕ) → left_of (cell_at (open_up b place) n) ≡ left_of (cell_at b n)
unfolding open_up
open-left b place n = each-left _ (λ id c. pick-left (has b.p2p place) (marked c place) c c.left (marked-left place c) refl) b.cells n

open-rises : (b : Book) (place : ℕ) → RisesFrom 0 b.cells → RisesFrom 0 (open_up b place).cells
unfolding open_up
open-rises b place r = each-rises _ b.cells 0 r

pick-of : (P : Book → Type 0) (t : Bool) (b c : Book) → P b → P c → P (if t then b else c)
pick-of P true b c p q = p
pick-of P false b c p q = q

set-left : (b : Book) (place : ℕ) (up : Bool) (n : ℕ) → left_of (cell_at (set_open b place up) n) ≡ left_of (cell_at b n)
set-left b place true n = pick-of (λ (c : Book). left_of (cell_at c n) ≡ left_of (cell_at b n)) (has b.opened place) b (open_up b place) refl (open-left b place n)
set-left b place false n = pick-of (λ (c : Book). left_of (cell_at c n) ≡ left_of (cell_at b n)) (has b.opened place) (close b place) b (close-left b place n) refl

set-rises : (b : Book) (place : ℕ) (up : Bool) → RisesFrom 0 b.cells → RisesFrom 0 (set_open b place up).cells
set-rises b place true r = pick-of (λ (c : Book). RisesFrom 0 c.cells) (has b.opened place) b (open_up b place) r (open-rises b place r)
set-rises b place false r = pick-of (λ (c : Book). RisesFrom 0 c.cells) (has b.opened place) (close b place) b (close-rises b place r) r

marked-rank : (place : ℕ) (c : Cell) → (marked c place).rank ≡ c.rank
marked-rank place c = pick-rank (nat_lt 0 c.rank) _ c c.rank refl refl

close-held : (b : Book) (place n : ℕ) → is_held (cell_at (close b place) n) ≡ is_held (cell_at b n)
unfolding close
close-held b place n = each-held _ b.cells n

close-staying : (b : Book) (place : ℕ) → cells_staying (close b place).cells ≡ cells_staying b.cells
unfolding close
close-staying b place = each-staying _ (λ id c. refl) (λ id c. refl) b.cells

open-held : (b : Book) (place n : ℕ) → is_held (cell_at (open_up b place) n) ≡ is_held (cell_at b n)
unfolding open_up
open-held b place n = each-held _ b.cells n

open-staying : (b : Book) (place : ℕ) → cells_staying (open_up b place).cells ≡ cells_staying b.cells
unfolding open_up
open-staying b place =
    each-staying _ (λ id c. pick-left (has b.p2p place) (marked c place) c c.left (marked-left place c) refl)
    (λ id c. pick-rank (has b.p2p place) (marked c place) c c.rank (marked-rank place c) refl) b.cells

set-held : (b : Book) (place : ℕ) (up : Bool) (n : ℕ) → is_held (cell_at (set_open b place up) n) ≡ is_held (cell_at b n)
set-held b place true n = pick-of (λ (c : Book). is_held (cell_at c n) ≡ is_held (cell_at b n)) (has b.opened place) b (open_up b place) refl (open-held b place n)
set-held b place false n = pick-of (λ (c : Book). is_held (cell_at c n) ≡ is_held (cell_at b n)) (has b.opened place) (close b place) b (close-held b place n) refl

set-staying : (b : Book) (place : ℕ) (up : Bool) → cells_staying (set_open b place up).cells ≡ cells_staying b.cells
set-staying b place true = pick-of (λ (c : Book). cells_staying c.cells ≡ cells_staying b.cells) (has b.opened place) b (open_up b place) refl (open-staying b place)
set-staying b place false = pick-of (λ (c : Book). cells_staying c.cells ≡ cells_staying b.cells) (has b.opened place) (close b place) b (close-staying b place) refl

one-still : (s : LevelState) (level : Level) (place : ℕ) (o : Option Circuit) → Still s.book (follow_one s level place o).book
one-still s level place None = still-refl s.book
one-still s level place (Some c) = record {
  kept = set_open-kept s.book place (is_open c level);
  left = set-left s.book place (is_open c level);
  rises = set-rises s.book place (is_open c level);
  held = set-held s.book place (is_open c level);
  staying = set-staying s.book place (is_open c level);
}

pub follow-still : (s : LevelState) (level : Level) (cs : List Circuit) (n : ℕ) → Still s.book (follow_first s level cs n).book
follow-still s level cs zero = still-refl s.book
follow-still s level cs (suc n) =
    let first = follow_first s level cs n in
    still-trans s.book first.book (follow_one first level n (nth cs n)).book (follow-still s level cs n) (one-still first level n (nth cs n))

-- ---- a second of entries

-- what is seen of what is held once its time has ended, or goes on
abbrev pub lasting : Option Cell → Option (ℕ × Content)
lasting None = None
lasting (Some c) = if is_ended c then None else seen (Some c)

lasting-same : (o p : Option Cell) → seen p ≡ seen o → left_of p ≡ left_of o → lasting p ≡ lasting o
lasting-same None None e f = refl
lasting-same None (Some b) e f = by (is_ended b)
  where
    by : (t : Bool) → (if t then None else seen (Some b)) ≡ None
    by true = refl
    by false = e
lasting-same (Some a) None e f = by (is_ended a)
  where
    by : (t : Bool) → None ≡ (if t then None else seen (Some a))
    by true = refl
    by false = e
lasting-same (Some a) (Some b) e f = by (is_live a.rank) refl (is_live b.rank) refl
  where
    none-some : {A B : Type 0} (x : A) → ◌≡◌ {A = Option A} None (Some x) → B
    none-some x e = absurd (cc)

    seen-by : (c : Cell) (t : Bool) → is_live c.rank ≡ t → seen (Some c) ≡ (if t then Some (c.rank, record { checksum = c.checksum; flags = c.flags; octets = c.octets }) else None)
    seen-by c t is = ap (λ (u : Bool). if u then Some (c.rank, record { checksum = c.checksum; flags = c.flags; octets = c.octets }) else None) is

    by : (t : Bool) → is_live a.rank ≡ t → (u : Bool) → is_live b.rank ≡ u → lasting (Some b) ≡ lasting (Some a)
    by true is true at = (λ i. if (at ∙ sym is) i && nat_lt (f i) 2 then None else e i)
    by true is false at = none-some _ (sym (seen-by b false at) ∙ e ∙ seen-by a true is)
    by false is true at = none-some _ (sym (seen-by a false is) ∙ sym e ∙ seen-by b true at)
    by false is false at = dead b at e ∙ sym (dead a is refl)
      where
        dead : (c : Cell) → is_live c.rank ≡ false → seen (Some c) ≡ seen (Some a) → lasting (Some c) ≡ seen (Some a)
        dead c off same = ap (λ (t : Bool). if t && nat_lt c.left 2 then None else seen (Some c)) off ∙ same

aged-seen : (opened : ℕ) (c : Cell) → seen (aged opened c) ≡ lasting (Some c)
aged-seen opened c = by (nat_le 2 c.left) refl (is_live c.rank) refl
  where
    lower : nat_le 2 c.left ≡ true → nat_lt c.left 2 ≡ false
    lower h = grind (arith, nat_tests, h)

    upper : nat_le 2 c.left ≡ false → nat_lt c.left 2 ≡ true
    upper h = grind (arith, nat_tests, h)

    by : (t : Bool) → nat_le 2 c.left ≡ t → (u : Bool) → is_live c.rank ≡ u
        → seen (if t then Some (less c) else (if u then Some (flagged (purged c) opened 0) else None)) ≡ (if u && nat_lt c.left 2 then None else seen (Some c))
    by true h true is = sym (ap (λ (t : Bool). if t then None else seen (Some c)) (lower h))
    by true h false is = refl
    by false h true is = seen-dead (flagged (purged c) opened 0) (not-live (number_of c.rank)) ∙ sym (ap (λ (t : Bool). if t then None else seen (Some c)) (upper h))
    by false h false is = sym (seen-dead c is)

pub one-is : (s : LevelState) (id : ℕ) (c : Cell) → cell_at s.book id ≡ Some c → (age_one s id).book ≡ set_cell s.book id (aged s.book.opened c)
unfolding age_one
one-is s id c e = ap (λ (o : Option Cell). (age_cell s id o).book) e

pub cell-set : (b : Book) (id : ℕ) (new : Option Cell) (q : ℕ) → cell_at (set_cell b id new) q ≡ (if id == q then new else cell_at b q)
unfolding set_cell
cell-set b id new q = find-set_at b.cells id new q

cell-other : (b : Book) (id : ℕ) (new : Option Cell) (q : ℕ) → (id ≡ q → ⊥) → cell_at (set_cell b id new) q ≡ cell_at b q
cell-other b id new q other = cell-set b id new q ∙ ap (λ (t : Bool). if t then new else cell_at b q) (ne_eqb id q other)

pub found-after : (cells : List (ℕ × Cell)) (least id : ℕ) (b : Book) (new : Option Cell) → RisesFrom least cells → id < least → AllByRecursion (λ (p : ℕ × Cell). cell_at b p.0 ≡ Some p.1) cells → AllByRecursion (λ (p : ℕ × Cell). cell_at (set_cell b id new) p.0 ≡ Some p.1) cells
found-after [] least id b new r h f = tt
found-after (p ∷ cells) least id b new r h f =
    let first = r.0 in
    (cell-other b id new p.0 (λ e. absurd (omega (arith, h, first, e))) ∙ f.0, found-after cells (p.0 + 1) id b new r.1 (omega (arith, h, first)) f.1)

pub none-below : (cells : List (ℕ × Cell)) (least n : ℕ) → RisesFrom least cells → n < least → find cells n ≡ None
none-below [] least n r h = refl
none-below (p ∷ cells) least n r h =
    let first = r.0 in
    ap (λ (t : Bool). if t then Some p.1 else find cells n) (ne_eqb p.0 n (λ e. absurd (omega (arith, h, first, e)))) ∙ none-below cells (p.0 + 1) n r.1 (omega (arith, h, first))

-- what is seen once these cells have had their second
abbrev after : List (ℕ × Cell) → Book → ℕ → Option Cell → Option (ℕ × Content)
after cells b n None = seen (cell_at b n)
after cells b n (Some c) = lasting (Some c)

all-seen : (cells : List (ℕ × Cell)) (least : ℕ) (s : LevelState) (n : ℕ) → RisesFrom least cells → AllByRecursion (λ (p : ℕ × Cell). cell_at s.book p.0 ≡ Some p.1) cells → seen (cell_at (age_all s cells).book n) ≡ after cells s.book n (find cells n)
all-seen [] least s n r f = refl
all-seen (p ∷ cells) least s n r f =
    all-seen cells (p.0 + 1) next n r.1 (subst (λ (b : Book). AllByRecursion (λ (q : ℕ × Cell). cell_at b q.0 ≡ Some q.1) cells) (sym is) (found-after cells (p.0 + 1) p.0 s.book (aged s.book.opened p.1) r.1 (omega arith) f.1))
    ∙ by (p.0 == n) refl (find cells n) refl
  where
    next : LevelState
    next = age_one s p.0

    is : next.book ≡ set_cell s.book p.0 (aged s.book.opened p.1)
    is = one-is s p.0 p.1 f.0

    here : seen (cell_at next.book n) ≡ seen (if p.0 == n then aged s.book.opened p.1 else cell_at s.book n)
    here = ap (λ (b : Book). seen (cell_at b n)) is ∙ ap seen (cell-set s.book p.0 (aged s.book.opened p.1) n)

    some-none : {B : Type 0} (c : Cell) → ◌≡◌ {A = Option Cell} (Some c) None → B
    some-none c e = absurd (cc)

    by : (t : Bool) → (p.0 == n) ≡ t → (o : Option Cell) → find cells n ≡ o → after cells next.book n o ≡ after (p ∷ cells) s.book n (if t then Some p.1 else o)
    by true at None none = here ∙ ap (λ (t : Bool). seen (if t then aged s.book.opened p.1 else cell_at s.book n)) at ∙ aged-seen s.book.opened p.1
    by true at (Some c) some =
        let same : p.0 ≡ n = eqb-true p.0 n at in
        some-none c (sym some ∙ none-below cells (p.0 + 1) n r.1 (omega (arith, same)))
    by false at None none = here ∙ ap (λ (t : Bool). seen (if t then aged s.book.opened p.1 else cell_at s.book n)) at
    by false at (Some c) some = refl

age-seen : (s : LevelState) (n : ℕ) → RisesFrom 0 s.book.cells → seen (cell_at (age s).book n) ≡ lasting (cell_at s.book n)
unfolding age
age-seen s n r = all-seen s.book.cells 0 s n r (all-found s.book.cells 0 r) ∙ of (find s.book.cells n) refl
  where
    of : (o : Option Cell) → find s.book.cells n ≡ o → after s.book.cells s.book n o ≡ lasting o
    of None e = ap seen e
    of (Some c) e = refl

-- a level that waited and followed circuits, before its entries' second
pub first-still : (s : LevelState) (level : Level) (cs : List Circuit) → Still s.book (follow_first (waited s) level cs (length cs)).book
first-still s level cs = still-trans s.book (waited s).book (follow_first (waited s) level cs (length cs)).book (wait-still s.book) (follow-still (waited s) level cs (length cs))

pub later-lasting : (s : LevelState) (level : Level) (cs : List Circuit) (n : ℕ) → RisesFrom 0 s.book.cells → seen (cell_at (level_later s level cs).book n) ≡ lasting (cell_at s.book n)
later-lasting s level cs n r =
    let first = follow_first (waited s) level cs (length cs) in
    let still : Still s.book first.book = first-still s level cs in
    age-seen first n (still.rises r) ∙ lasting-same (cell_at s.book n) (cell_at first.book n) (seen-same (cell_at s.book n) (cell_at first.book n) (still.kept n)) (still.left n)

-- ---- where no live entry's time ends

calm-lasting : (cells : List (ℕ × Cell)) (n : ℕ) → AllByRecursion (λ (p : ℕ × Cell). is_ended p.1 ≡ false) cells → lasting (find cells n) ≡ seen (find cells n)
calm-lasting [] n all = refl
calm-lasting (p ∷ cells) n all = by (p.0 == n) (calm-lasting cells n all.1)
  where
    by : (t : Bool) → lasting (find cells n) ≡ seen (find cells n) → lasting (if t then Some p.1 else find cells n) ≡ seen (if t then Some p.1 else find cells n)
    by true rest = ap (λ (t : Bool). if t then None else seen (Some p.1)) all.0
    by false rest = rest

pub later-seen : (s : LevelState) (level : Level) (cs : List Circuit) → AreLasting s.book → (n : ℕ) → seen (cell_at (level_later s level cs).book n) ≡ seen (cell_at s.book n)
later-seen s level cs l n = later-lasting s level cs n l.rises ∙ calm-lasting s.book.cells n l.last

pub lasting-of : (b : BookState) (store : Database) (entries : List (LspId × Entry)) (t : Bool) → RisesFrom 0 (book_of b).cells → t ≡ all_last entries → entries ≡ store.entries → store ≡ b.store → t ≡ true → AreLasting (book_of b)
lasting-of b store entries t rises is same lent e = record {
  rises = rises;
  last = last-cells b.store.entries b.rows (sym (is ∙ (ap all_last same ∙ ap (λ (d : Database). all_last d.entries) lent)) ∙ e);
}
