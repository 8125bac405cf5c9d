-- What a level holds a second later: how many entries, which, and of which number.
use Rattle.std.proofs.Common.{◌≡◌, ◌∙◌, ℕ, ◌+◌, ◌*◌, ◌/◌, ◌==◌, ◌&&◌, ◌||◌, nat_le, nat_lt, Bool, true, false, List, [], ◌∷◌, length, Option, Some, None, refl, sym, ap, subst, if◌then◌else◌, arith}
use Rattle.std.specs.List.{AllByRecursion}
use Rattle.std.proofs.lemmas.Bool.{eqb-true}
use Rattle.isis_base.specs.declared.identifiers.LspId.{LspId}
use Rattle.isis_base.specs.declared.level.Level.{Level}
use Rattle.isis_base.specs.Identifiers.{IsId, lsp_number}
use Rattle.isis_base.specs.Keys.{rank}
use Rattle.lsp_store.specs.declared.entry.Entry.{Entry}
use Rattle.lsp_store.specs.Maps as maps
use Rattle.lsp_store.specs.Maps.{pair_number}
use Rattle.lsp_store.proofs.MapLemmas.{find-above, rises-above}
use Rattle.flag_sync.specs.declared.flag_row.FlagRow.{FlagRow}
use Rattle.flag_sync.specs.BookStates as sync
use Rattle.flag_sync.specs.BookStates.{BookState, cells_of}
use Rattle.flag_sync.specs.FlagRows.{cell_of}
use Rattle.model_router.specs.Ageing.{aged, age_all, age_cell, age_one, age, less}
use Rattle.model_router.specs.Books.{Book, cell_at, rank_of, set_cell}
use Rattle.model_router.specs.Cells.{Cell, flagged, purged}
use Rattle.model_router.specs.Deeds.{Content}
use Rattle.model_router.specs.Maps.{each, find}
use Rattle.model_router.specs.OwnLsps.{is_held}
use Rattle.model_router.specs.Ranks.{is_live, number_of}
use Rattle.model_router.specs.Routers.{Circuit, Issued, LevelState, Router, book_of, level_of}
use Rattle.model_router.specs.Seconds.{older, waited}
use Rattle.model_router.specs.Sorted.{RisesFrom}
use Rattle.model_router.proofs.RisingLemmas.{all-found}
use Rattle.ordered.proofs.MapLemmas.{erase-rises, put-rises, rises-less}
use Rattle.router_routes.proofs.LeakLemmas.{maps-same}
use Rattle.router_core.specs.Asides.{AreNamed, IsNamed, seen}
use Rattle.router_core.specs.Calm.{is_ended, is_ending}
use Rattle.router_core.specs.Renewals.{IsForeseen, Sight, ended, ended_one, number_in, sight_of, staying, stays, stays_in}
use Rattle.router_core.specs.Seconds.{follow_first, level_later}
use Rattle.router_core.proofs.AsideLemmas.{Entries, named}
use Rattle.router_core.proofs.LastLemmas.{cell-set, cell_stays, cells_staying, first-still, found-after, lasting, later-lasting, left_of, none-below, one-is}
use Rattle.router_core.proofs.QuietLemmas.{later-own}
use Rattle.router_core.proofs.RouteLemmas.{live-is}

abbrev HaveIds : Entries → Type 0
HaveIds es = AllByRecursion (λ (p : LspId × Entry). IsId p.0) es

clash : {A : Type 0} → true ≡ false → A
clash e = absurd (cc)

-- ---- each cell once entries had their second

-- what is left of a cell
abbrev pub then_of : ℕ → Option Cell → Option Cell
then_of opened None = None
then_of opened (Some c) = aged opened c

-- what is left where a cell is among those that had their second, and else what is held
abbrev now_or : ℕ → Option Cell → Option Cell → Option Cell
now_or opened old None = old
now_or opened old (Some c) = aged opened c

opened-set : (b : Book) (id : ℕ) (new : Option Cell) → (set_cell b id new).opened ≡ b.opened
unfolding set_cell
opened-set b id new = refl

all-cells : (cells : List (ℕ × Cell)) (least : ℕ) (s : LevelState) (n : ℕ) → RisesFrom least cells → AllByRecursion (λ (p : ℕ × Cell). cell_at s.book p.0 ≡ Some p.1) cells → cell_at (age_all s cells).book n ≡ now_or s.book.opened (cell_at s.book n) (find cells n)
all-cells [] least s n r f = refl
all-cells (p ∷ cells) least s n r f =
    all-cells cells (p.0 + 1) next n r.1 (subst (λ (b : Book). AllByRecursion (λ (q : ℕ × Cell). cell_at b q.0 ≡ Some q.1) cells) (sym is) (found-after cells (p.0 + 1) p.0 s.book (aged s.book.opened p.1) r.1 (omega arith) f.1))
    ∙ by (p.0 == n) refl (find cells n) refl
  where
    next : LevelState
    next = age_one s p.0

    is : next.book ≡ set_cell s.book p.0 (aged s.book.opened p.1)
    is = one-is s p.0 p.1 f.0

    opens : next.book.opened ≡ s.book.opened
    opens = ap (λ (b : Book). b.opened) is ∙ opened-set s.book p.0 (aged s.book.opened p.1)

    here : cell_at next.book n ≡ (if p.0 == n then aged s.book.opened p.1 else cell_at s.book n)
    here = ap (λ (b : Book). cell_at b n) is ∙ cell-set s.book p.0 (aged s.book.opened p.1) n

    some-none : {B : Type 0} (c : Cell) → ◌≡◌ {A = Option Cell} (Some c) None → B
    some-none c e = absurd (cc)

    by : (t : Bool) → (p.0 == n) ≡ t → (o : Option Cell) → find cells n ≡ o → now_or next.book.opened (cell_at next.book n) o ≡ now_or s.book.opened (cell_at s.book n) (if t then Some p.1 else o)
    by true at None none = here ∙ ap (λ (t : Bool). if t then aged s.book.opened p.1 else cell_at s.book n) at
    by true at (Some c) some =
        let same : p.0 ≡ n = eqb-true p.0 n at in
        some-none c (sym some ∙ none-below cells (p.0 + 1) n r.1 (omega (arith, same)))
    by false at None none = here ∙ ap (λ (t : Bool). if t then aged s.book.opened p.1 else cell_at s.book n) at
    by false at (Some c) some = ap (λ (k : ℕ). aged k c) opens

now-then : (opened : ℕ) (o : Option Cell) → now_or opened o o ≡ then_of opened o
now-then opened None = refl
now-then opened (Some c) = refl

age-cell : (s : LevelState) (n : ℕ) → RisesFrom 0 s.book.cells → cell_at (age s).book n ≡ then_of s.book.opened (cell_at s.book n)
unfolding age
age-cell s n r = all-cells s.book.cells 0 s n r (all-found s.book.cells 0 r) ∙ now-then s.book.opened (cell_at s.book n)

-- ---- they stay in order

set-rises : (b : Book) (id : ℕ) (o : Option Cell) → RisesFrom 0 b.cells → RisesFrom 0 (set_cell b id o).cells
unfolding set_cell
set-rises b id None r = erase-rises b.cells 0 id r
set-rises b id (Some c) r = put-rises b.cells 0 id c (omega arith) r

one-rises : (s : LevelState) (id : ℕ) → RisesFrom 0 s.book.cells → RisesFrom 0 (age_one s id).book.cells
unfolding age_one
one-rises s id r = of (cell_at s.book id)
  where
    of : (o : Option Cell) → RisesFrom 0 (age_cell s id o).book.cells
    of None = r
    of (Some c) = set-rises s.book id (aged s.book.opened c) r

all-rises : (cells : List (ℕ × Cell)) (s : LevelState) → RisesFrom 0 s.book.cells → RisesFrom 0 (age_all s cells).book.cells
all-rises [] s r = r
all-rises (p ∷ cells) s r = all-rises cells (age_one s p.0) (one-rises s p.0 r)

age-rises : (s : LevelState) → RisesFrom 0 s.book.cells → RisesFrom 0 (age s).book.cells
unfolding age
age-rises s r = all-rises s.book.cells s r

-- ---- and so many are left

abbrev kept_one : ℕ → Option Cell → List (ℕ × Cell) → List (ℕ × Cell)
kept_one id None m = m
kept_one id (Some c) m = (id, c) ∷ m

abbrev kept_all : ℕ → List (ℕ × Cell) → List (ℕ × Cell)
kept_all opened [] = []
kept_all opened (p ∷ m) = kept_one p.0 (aged opened p.1) (kept_all opened m)

kept-find : (opened least : ℕ) (m : List (ℕ × Cell)) (n : ℕ) → RisesFrom least m → find (kept_all opened m) n ≡ then_of opened (find m n)
kept-find opened least [] n r = refl
kept-find opened least (p ∷ m) n r = by (aged opened p.1) refl (p.0 == n) refl (kept-find opened (p.0 + 1) m n r.1)
  where
    none : (p.0 == n) ≡ true → find m n ≡ None
    none at = let same : p.0 ≡ n = eqb-true p.0 n at in none-below m (p.0 + 1) n r.1 (omega (arith, same))

    by : (o : Option Cell) → aged opened p.1 ≡ o → (t : Bool) → (p.0 == n) ≡ t → find (kept_all opened m) n ≡ then_of opened (find m n) → find (kept_one p.0 o (kept_all opened m)) n ≡ then_of opened (if t then Some p.1 else find m n)
    by None is true at rest = rest ∙ ap (then_of opened) (none at) ∙ sym is
    by None is false at rest = rest
    by (Some c) is true at rest = ap (λ (t : Bool). if t then Some c else find (kept_all opened m) n) at ∙ sym is
    by (Some c) is false at rest = ap (λ (t : Bool). if t then Some c else find (kept_all opened m) n) at ∙ rest

kept-rises : (opened least : ℕ) (m : List (ℕ × Cell)) → RisesFrom least m → RisesFrom least (kept_all opened m)
kept-rises opened least [] r = tt
kept-rises opened least (p ∷ m) r = by (aged opened p.1) (kept-rises opened (p.0 + 1) m r.1)
  where
    by : (o : Option Cell) → RisesFrom (p.0 + 1) (kept_all opened m) → RisesFrom least (kept_one p.0 o (kept_all opened m))
    by None rest = let first = r.0 in rises-less (p.0 + 1) least (kept_all opened m) (omega (arith, first)) rest
    by (Some c) rest = (r.0, rest)

held-aged : (opened : ℕ) (c : Cell) → is_held (aged opened c) ≡ cell_stays c
held-aged opened c = by (nat_le 2 c.left) (is_live c.rank)
  where
    by : (t u : Bool) → is_held (if t then Some (less c) else (if u then Some (flagged (purged c) opened 0) else None)) ≡ (t || u)
    by true u = refl
    by false true = refl
    by false false = refl

kept-long : (opened : ℕ) (m : List (ℕ × Cell)) → length (kept_all opened m) ≡ cells_staying m
kept-long opened [] = refl
kept-long opened (p ∷ m) = one (aged opened p.1) ∙ (λ i. (if held-aged opened p.1 i then 1 else 0) + kept-long opened m i)
  where
    one : (o : Option Cell) → length (kept_one p.0 o (kept_all opened m)) ≡ (if is_held o then 1 else 0) + length (kept_all opened m)
    one None = omega arith
    one (Some c) = omega arith

age-long : (s : LevelState) → RisesFrom 0 s.book.cells → length (age s).book.cells ≡ cells_staying s.book.cells
age-long s r =
    ap length (maps-same 0 (age s).book.cells (kept_all s.book.opened s.book.cells) (age-rises s r) (kept-rises s.book.opened 0 s.book.cells r)
    (λ n. age-cell s n r ∙ sym (kept-find s.book.opened 0 s.book.cells n r)))
    ∙ kept-long s.book.opened s.book.cells

half : (k : ℕ) → (2 * k + 1) / 2 ≡ k
half k = omega arith

number-aged : (opened : ℕ) (c : Cell) → number_of (rank_of (aged opened c)) ≡ (if cell_stays c then number_of c.rank else 0)
number-aged opened c = by (nat_le 2 c.left) (is_live c.rank)
  where
    by : (t u : Bool) → number_of (rank_of (if t then Some (less c) else (if u then Some (flagged (purged c) opened 0) else None))) ≡ (if t || u then number_of c.rank else 0)
    by true u = refl
    by false true = half (number_of c.rank)
    by false false = omega arith

-- ---- of a cell by its parts

abbrev stays_of : Option Cell → Bool
stays_of None = false
stays_of (Some c) = cell_stays c

abbrev number_then : Option Cell → ℕ
number_then None = 0
number_then (Some c) = if cell_stays c then number_of c.rank else 0

held-then : (opened : ℕ) (o : Option Cell) → is_held (then_of opened o) ≡ stays_of o
held-then opened None = refl
held-then opened (Some c) = held-aged opened c

number-of-then : (opened : ℕ) (o : Option Cell) → number_of (rank_of (then_of opened o)) ≡ number_then o
number-of-then opened None = omega arith
number-of-then opened (Some c) = number-aged opened c

stays-by : (o : Option Cell) → stays_of o ≡ (is_held o && (nat_le 2 (left_of o) || is_live (rank_of o)))
stays-by None = refl
stays-by (Some c) = refl

number-by : (o : Option Cell) → number_then o ≡ (if is_held o && (nat_le 2 (left_of o) || is_live (rank_of o)) then number_of (rank_of o) else 0)
number-by None = refl
number-by (Some c) = refl

same-stays : (o p : Option Cell) → is_held p ≡ is_held o → left_of p ≡ left_of o → rank_of p ≡ rank_of o → stays_of p ≡ stays_of o
same-stays o p h l k = stays-by p ∙ (λ i. h i && (nat_le 2 (l i) || is_live (k i))) ∙ sym (stays-by o)

same-number : (o p : Option Cell) → is_held p ≡ is_held o → left_of p ≡ left_of o → rank_of p ≡ rank_of o → number_then p ≡ number_then o
same-number o p h l k = number-by p ∙ (λ i. if h i && (nat_le 2 (l i) || is_live (k i)) then number_of (k i) else 0) ∙ sym (number-by o)

-- ---- of a database's entries

cell-stays : (e : Entry) (row : FlagRow) → cell_stays (cell_of e row) ≡ stays e
cell-stays e row = ap (λ (t : Bool). nat_le 2 e.left || t) (live-is e.key)

stays-cells : (es : Entries) (rs : List (LspId × FlagRow)) (n : ℕ) → length rs ≡ length es → stays_of (find (cells_of es rs) n) ≡ stays_in (maps.find es n)
stays-cells [] rs n long = refl
stays-cells (e ∷ es) [] n long = absurd (omega (arith, long))
stays-cells (e ∷ es) (r ∷ rs) n long = by (pair_number e == n) (stays-cells es rs n (omega (arith, long)))
  where
    by : (t : Bool) → stays_of (find (cells_of es rs) n) ≡ stays_in (maps.find es n) → stays_of (if t then Some (cell_of e.1 r.1) else find (cells_of es rs) n) ≡ stays_in (if t then Some e.1 else maps.find es n)
    by true rest = cell-stays e.1 r.1
    by false rest = rest

number-cells : (es : Entries) (rs : List (LspId × FlagRow)) (n : ℕ) → length rs ≡ length es → number_then (find (cells_of es rs) n) ≡ number_in (maps.find es n)
number-cells [] rs n long = refl
number-cells (e ∷ es) [] n long = absurd (omega (arith, long))
number-cells (e ∷ es) (r ∷ rs) n long = by (pair_number e == n) (number-cells es rs n (omega (arith, long)))
  where
    by : (t : Bool) → number_then (find (cells_of es rs) n) ≡ number_in (maps.find es n) → number_then (if t then Some (cell_of e.1 r.1) else find (cells_of es rs) n) ≡ number_in (if t then Some e.1 else maps.find es n)
    by true rest = ap (λ (t : Bool). if t then number_of (rank e.1.key) else 0) (cell-stays e.1 r.1)
    by false rest = rest

staying-cells : (es : Entries) (rs : List (LspId × FlagRow)) → length rs ≡ length es → cells_staying (cells_of es rs) ≡ staying es
staying-cells [] rs long = refl
staying-cells (e ∷ es) [] long = absurd (omega (arith, long))
staying-cells (e ∷ es) (r ∷ rs) long =
    let here = cell-stays e.1 r.1 in
    let rest = staying-cells es rs (omega (arith, long)) in
    λ i. (if here i then 1 else 0) + rest i

stays-named : (es : Entries) (n : ℕ) → HaveIds es → stays_in (maps.find es n) ≡ true → IsNamed n
stays-named [] n ids is = clash (sym is)
stays-named (e ∷ es) n ids is = by (pair_number e == n) refl is (λ h. stays-named es n ids.1 h)
  where
    by : (t : Bool) → (pair_number e == n) ≡ t → stays_in (if t then Some e.1 else maps.find es n) ≡ true → (stays_in (maps.find es n) ≡ true → IsNamed n) → IsNamed n
    by true at h rest = subst IsNamed (eqb-true (pair_number e) n at) (named e.0 ids.0)
    by false at h rest = rest h

-- what is found has an LSP ID's number, so all have
named-by : (whole m : List (ℕ × Cell)) → ((n : ℕ) → is_held (find whole n) ≡ true → IsNamed n) → AllByRecursion (λ (p : ℕ × Cell). find whole p.0 ≡ Some p.1) m → AreNamed m
named-by whole [] f all = tt
named-by whole (p ∷ m) f all = (f p.0 (ap is_held all.0), named-by whole m f all.1)

-- ---- a level a second later

module _ (r : Router) (l : Level) (v : BookState) (own : List (ℕ × Issued)) (cs : List Circuit) (of_book : sync.book_of v ≡ book_of r l) (long : length v.rows ≡ length v.store.entries) (ids : HaveIds v.store.entries) (sorted : RisesFrom 0 (book_of r l).cells) where
  abbrev s : LevelState
  s = level_of r l

  abbrev first : LevelState
  first = follow_first (waited s) l cs (length cs)

  abbrev later : LevelState
  later = level_later s l cs

  cells : (book_of r l).cells ≡ cells_of v.store.entries v.rows
  cells = ap (λ (b : Book). b.cells) (sym of_book)

  rises : RisesFrom 0 first.book.cells
  rises = (first-still s l cs).rises sorted

  rank-first : (n : ℕ) → rank_of (cell_at first.book n) ≡ rank_of (cell_at s.book n)
  rank-first n = ((first-still s l cs).kept n).rank

  stays-later : (n : ℕ) → is_held (cell_at later.book n) ≡ stays_in (maps.find v.store.entries n)
  stays-later n =
      ap is_held (age-cell first n rises) ∙ held-then first.book.opened (cell_at first.book n)
      ∙ same-stays (cell_at s.book n) (cell_at first.book n) ((first-still s l cs).held n) ((first-still s l cs).left n) (rank-first n)
      ∙ ap (λ (m : List (ℕ × Cell)). stays_of (find m n)) cells ∙ stays-cells v.store.entries v.rows n long

  number-later : (n : ℕ) → number_of (rank_of (cell_at later.book n)) ≡ number_in (maps.find v.store.entries n)
  number-later n =
      ap (λ (o : Option Cell). number_of (rank_of o)) (age-cell first n rises) ∙ number-of-then first.book.opened (cell_at first.book n)
      ∙ same-number (cell_at s.book n) (cell_at first.book n) ((first-still s l cs).held n) ((first-still s l cs).left n) (rank-first n)
      ∙ ap (λ (m : List (ℕ × Cell)). number_then (find m n)) cells ∙ number-cells v.store.entries v.rows n long

  pub later-foreseen : own ≡ each (λ (_ : ℕ) (i : Issued). older i) s.own → IsForeseen v.store.entries own 0 (staying v.store.entries) later
  later-foreseen same = record {
    own_is = λ n h. ap (λ (m : List (ℕ × Issued)). find m n) (later-own s l cs ∙ sym same);
    number = λ n h. number-later n;
    is_there = λ n h. stays-later n;
    long = age-long first rises ∙ (first-still s l cs).staying ∙ ap cells_staying cells ∙ staying-cells v.store.entries v.rows long;
    sorted = age-rises first rises;
    named = named-by later.book.cells later.book.cells (λ n h. stays-named v.store.entries n ids (sym (stays-later n) ∙ h)) (all-found later.book.cells 0 (age-rises first rises));
  }

-- ---- what is seen of it

abbrev ends : Bool → Option (ℕ × Content) → Option (ℕ × Content)
ends true x = None
ends false x = x

abbrev ends_in : Option Entry → Option (ℕ × Content) → Option (ℕ × Content)
ends_in None x = x
ends_in (Some e) x = ends (is_ending e) x

ended-by : (es : Entries) (least : ℕ) (sight : Sight) (n : ℕ) → maps.RisesFrom least es → ended es sight n ≡ ends_in (maps.find es n) (sight n)
ended-by [] least sight n rises = refl
ended-by (e ∷ es) least sight n rises =
    ended-by es (pair_number e + 1) (ended_one (is_ending e.1) sight (lsp_number e.0)) n rises.1 ∙ by (pair_number e == n) refl (is_ending e.1) ∙ turned (pair_number e == n)
  where
    none : (pair_number e == n) ≡ true → maps.find es n ≡ None
    none at = let same : pair_number e ≡ n = eqb-true (pair_number e) n at in find-above n [] es (rises-above n (pair_number e + 1) es (omega (arith, same)) rises.1)

    ends_at : Bool → Bool → Option (ℕ × Content)
    ends_at true u = ends u (sight n)
    ends_at false u = ends_in (maps.find es n) (sight n)

    turned : (t : Bool) → ends_at t (is_ending e.1) ≡ ends_in (if t then Some e.1 else maps.find es n) (sight n)
    turned true = refl
    turned false = refl

    by : (t : Bool) → (pair_number e == n) ≡ t → (u : Bool) → ends_in (maps.find es n) (ended_one u sight (lsp_number e.0) n) ≡ ends_at t u
    by true at true = ap (λ (o : Option Entry). ends_in o (if pair_number e == n then None else sight n)) (none at) ∙ ap (λ (t : Bool). if t then None else sight n) at
    by true at false = ap (λ (o : Option Entry). ends_in o (sight n)) (none at)
    by false at true = ap (λ (t : Bool). ends_in (maps.find es n) (if t then None else sight n)) at
    by false at false = refl

cells-lasting : (es : Entries) (rs : List (LspId × FlagRow)) (n : ℕ) → length rs ≡ length es → lasting (find (cells_of es rs) n) ≡ ends_in (maps.find es n) (seen (find (cells_of es rs) n))
cells-lasting [] rs n long = refl
cells-lasting (e ∷ es) [] n long = absurd (omega (arith, long))
cells-lasting (e ∷ es) (r ∷ rs) n long = by (pair_number e == n) (cells-lasting es rs n (omega (arith, long)))
  where
    over : is_ended (cell_of e.1 r.1) ≡ is_ending e.1
    over = ap (λ (t : Bool). t && nat_lt e.1.left 2) (live-is e.1.key)

    either : (t : Bool) (x : Option (ℕ × Content)) → (if t then None else x) ≡ ends t x
    either true x = refl
    either false x = refl

    by : (t : Bool) → lasting (find (cells_of es rs) n) ≡ ends_in (maps.find es n) (seen (find (cells_of es rs) n))
        → lasting (if t then Some (cell_of e.1 r.1) else find (cells_of es rs) n) ≡ ends_in (if t then Some e.1 else maps.find es n) (seen (if t then Some (cell_of e.1 r.1) else find (cells_of es rs) n))
    by true rest = ap (λ (t : Bool). if t then None else seen (Some (cell_of e.1 r.1))) over ∙ either (is_ending e.1) (seen (Some (cell_of e.1 r.1)))
    by false rest = rest

pub later-sight : (r : Router) (l : Level) (v : BookState) (cs : List Circuit) (n : ℕ) → sync.book_of v ≡ book_of r l → length v.rows ≡ length v.store.entries → maps.RisesFrom 0 v.store.entries → RisesFrom 0 (book_of r l).cells
    → ended v.store.entries (sight_of (book_of r l)) n ≡ seen (cell_at (level_later (level_of r l) l cs).book n)
later-sight r l v cs n of_book long rises sorted =
    let cells : (book_of r l).cells ≡ cells_of v.store.entries v.rows = ap (λ (b : Book). b.cells) (sym of_book) in
    ended-by v.store.entries 0 (sight_of (book_of r l)) n rises
    ∙ ap (λ (m : List (ℕ × Cell)). ends_in (maps.find v.store.entries n) (seen (find m n))) cells
    ∙ sym (cells-lasting v.store.entries v.rows n long)
    ∙ ap (λ (m : List (ℕ × Cell)). lasting (find m n)) (sym cells)
    ∙ sym (later-lasting (level_of r l) l cs n sorted)
