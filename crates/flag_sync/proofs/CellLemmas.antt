-- Entries and rows side by side, as cells: what is found, put, erased and changed.
use Rattle.std.proofs.Common.{◌≡◌, Bool, true, false, if◌then◌else◌, ℕ, suc, ◌+◌, ◌<◌, ◌≤◌, eqb, nat_lt, ◌⊎◌, inl, inr, List, [], ◌∷◌, length, Option, Some, None, IsSome, is_some, ◌-◌, refl, sym, ap, ap₂, ◌∙◌, subst, arith}
use Rattle.std.proofs.lemmas.Bool.Decides.{nat_tests}
use Rattle.isis_base.specs.declared.identifiers.LspId.{LspId}
use Rattle.isis_base.specs.declared.key.Key.{Key}
use Rattle.isis_base.specs.Identifiers.{lsp_number}
use Rattle.isis_base.specs.Keys.{rank}
use Rattle.model_router.specs.Maps as cells
use Rattle.model_router.specs.Cells.{Cell, header_of}
use Rattle.model_router.specs.Books.{rank_of}
use Rattle.lsp_store.specs.declared.entry.Entry.{Entry}
use Rattle.lsp_store.specs.Maps.{pair_number, find, put, erase, change_at, change_all, RisesFrom}
use Rattle.lsp_store.specs.Databases.{key_of}
use Rattle.flag_sync.specs.declared.flag_row.FlagRow.{FlagRow}
use Rattle.flag_sync.specs.FlagRows.{cell_of}
use Rattle.flag_sync.specs.Entries.{HasHeader, AllHaveHeaders, key_purged, purged_entry}
use Rattle.flag_sync.proofs.HeaderLemmas.{header-length}
use Rattle.flag_sync.specs.BookStates.{cells_of, AreBeside}

-- ---- what is found

-- an entry and its row, where both are there
abbrev pub pair_up : Option Entry → Option FlagRow → Option Cell
pair_up None row = None
pair_up (Some entry) None = None
pair_up (Some entry) (Some row) = Some (cell_of entry row)

pub find-cells : (es : List (LspId × Entry)) (rs : List (LspId × FlagRow)) (n : ℕ) → AreBeside es rs → cells.find (cells_of es rs) n ≡ pair_up (find es n) (find rs n)
find-cells [] [] n b = refl
find-cells [] (r ∷ rs) n b = absurd b
find-cells (e ∷ es) [] n b = absurd b
find-cells (e ∷ es) (r ∷ rs) n b = let same = b.0 in grind (arith, nat_tests, same, find-cells es rs n b.1)

pub rank-cells : (es : List (LspId × Entry)) (rs : List (LspId × FlagRow)) (n : ℕ) → AreBeside es rs → rank_of (cells.find (cells_of es rs) n) ≡ rank (key_of (find es n))
rank-cells [] [] n b = refl
rank-cells [] (r ∷ rs) n b = absurd b
rank-cells (e ∷ es) [] n b = absurd b
rank-cells (e ∷ es) (r ∷ rs) n b = cases (eqb (lsp_number e.0) n) (rank-cells es rs n b.1)
  where
    cases : (t : Bool) → rank_of (cells.find (cells_of es rs) n) ≡ rank (key_of (find es n)) → rank_of (if t then Some (cell_of e.1 r.1) else cells.find (cells_of es rs) n) ≡ rank (key_of (if t then Some e.1 else find es n))
    cases true h = refl
    cases false h = h

-- an entry and its row are both there, or neither is
abbrev pub BothOrNone : Option Entry → Option FlagRow → Type 0
BothOrNone entry row = ((entry ≡ None) × (row ≡ None)) ⊎ ((e : Entry) × (r : FlagRow) × (entry ≡ Some e) × (row ≡ Some r))

pub both-or-none : (es : List (LspId × Entry)) (rs : List (LspId × FlagRow)) (n : ℕ) → AreBeside es rs → BothOrNone (find es n) (find rs n)
both-or-none [] [] n b = inl (refl, refl)
both-or-none [] (r ∷ rs) n b = absurd b
both-or-none (e ∷ es) [] n b = absurd b
both-or-none (e ∷ es) (r ∷ rs) n b =
    subst (λ (m : ℕ). BothOrNone (find (e ∷ es) n) (if eqb m n then Some r.1 else find rs n)) b.0 (cases (eqb (lsp_number e.0) n) (both-or-none es rs n b.1))
  where
    cases : (t : Bool) → BothOrNone (find es n) (find rs n) → BothOrNone (if t then Some e.1 else find es n) (if t then Some r.1 else find rs n)
    cases true h = inr (e.1, r.1, refl, refl)
    cases false h = h

pub row-some : (es : List (LspId × Entry)) (rs : List (LspId × FlagRow)) (n : ℕ) (entry : Entry) → AreBeside es rs → find es n ≡ Some entry → IsSome (find rs n)
row-some es rs n entry b e = elim (both-or-none es rs n b) [
  | inl h ↦ absurd (let f = sym h.0 ∙ e in grind (arith, f))
  | inr h ↦ subst (λ (o : Option FlagRow). IsSome o) (sym h.3) refl
]

pub length-cells : (es : List (LspId × Entry)) (rs : List (LspId × FlagRow)) → AreBeside es rs → length (cells_of es rs) ≡ length es
length-cells [] [] b = refl
length-cells [] (r ∷ rs) b = absurd b
length-cells (e ∷ es) [] b = absurd b
length-cells (e ∷ es) (r ∷ rs) b = ap suc (length-cells es rs b.1)

-- ---- what is put

pub put-cells : (es : List (LspId × Entry)) (rs : List (LspId × FlagRow)) (id : LspId) (entry : Entry) (row : FlagRow) → AreBeside es rs → cells_of (put es id entry) (put rs id row) ≡ cells.put (cells_of es rs) (lsp_number id) (cell_of entry row)
unfolding cells.put
put-cells [] [] id entry row b = refl
put-cells [] (r ∷ rs) id entry row b = absurd b
put-cells (e ∷ es) [] id entry row b = absurd b
put-cells (e ∷ es) (r ∷ rs) id entry row b = let same = b.0 in grind (arith, nat_tests, same, put-cells es rs id entry row b.1)

pub put-beside : (es : List (LspId × Entry)) (rs : List (LspId × FlagRow)) (id : LspId) (entry : Entry) (row : FlagRow) → AreBeside es rs → AreBeside (put es id entry) (put rs id row)
put-beside [] [] id entry row b = (refl, tt)
put-beside [] (r ∷ rs) id entry row b = absurd b
put-beside (e ∷ es) [] id entry row b = absurd b
put-beside (e ∷ es) (r ∷ rs) id entry row b =
    subst (λ (m : ℕ). AreBeside (put (e ∷ es) id entry) (if eqb m (lsp_number id) then (id, row) ∷ rs else (if nat_lt (lsp_number id) m then (id, row) ∷ r ∷ rs else r ∷ put rs id row))) b.0
    (first (eqb (lsp_number e.0) (lsp_number id)) (nat_lt (lsp_number id) (lsp_number e.0)) (put-beside es rs id entry row b.1))
  where
    first : (t u : Bool) → AreBeside (put es id entry) (put rs id row) → AreBeside (if t then (id, entry) ∷ es else (if u then (id, entry) ∷ e ∷ es else e ∷ put es id entry)) (if t then (id, row) ∷ rs else (if u then (id, row) ∷ r ∷ rs else r ∷ put rs id row))
    first true u h = (refl, b.1)
    first false true h = (refl, (b.0, b.1))
    first false false h = (b.0, h)

pub put-headers : (es : List (LspId × Entry)) (id : LspId) (entry : Entry) → AllHaveHeaders es → HasHeader entry.key entry.octets → AllHaveHeaders (put es id entry)
put-headers [] id entry a h = (h, tt)
put-headers (e ∷ es) id entry a h = cases (eqb (lsp_number e.0) (lsp_number id)) (nat_lt (lsp_number id) (lsp_number e.0)) (put-headers es id entry a.1 h)
  where
    cases : (t u : Bool) → AllHaveHeaders (put es id entry) → AllHaveHeaders (if t then (id, entry) ∷ es else (if u then (id, entry) ∷ e ∷ es else e ∷ put es id entry))
    cases true u g = (h, a.1)
    cases false true g = (h, (a.0, a.1))
    cases false false g = (a.0, g)

-- ---- what is erased

none-above : (es : List (LspId × Entry)) (rs : List (LspId × FlagRow)) (n least : ℕ) → n < least → RisesFrom least es → cells.erase (cells_of es rs) n ≡ cells_of es rs
unfolding cells.erase
none-above [] rs n least lt up = refl
none-above (e ∷ es) [] n least lt up = refl
none-above (e ∷ es) (r ∷ rs) n least lt up =
    let h = up.0 in
    grind (arith, nat_tests, h, lt, none-above es rs n (lsp_number e.0 + 1) (omega (arith, h, lt)) up.1)

pub erase-cells : (es : List (LspId × Entry)) (rs : List (LspId × FlagRow)) (n least : ℕ) → AreBeside es rs → RisesFrom least es → cells_of (erase es n) (erase rs n) ≡ cells.erase (cells_of es rs) n
unfolding cells.erase
erase-cells [] [] n least b up = refl
erase-cells [] (r ∷ rs) n least b up = absurd b
erase-cells (e ∷ es) [] n least b up = absurd b
erase-cells (e ∷ es) (r ∷ rs) n least b up =
    let same = b.0 in
    let rest = erase-cells es rs n (lsp_number e.0 + 1) b.1 up.1 in
    let above = λ (q : lsp_number e.0 ≡ n). none-above es rs n (lsp_number e.0 + 1) (omega (arith, q)) up.1 in
    grind (arith, nat_tests, same, rest, above)

pub erase-beside : (es : List (LspId × Entry)) (rs : List (LspId × FlagRow)) (n : ℕ) → AreBeside es rs → AreBeside (erase es n) (erase rs n)
erase-beside [] [] n b = tt
erase-beside [] (r ∷ rs) n b = absurd b
erase-beside (e ∷ es) [] n b = absurd b
erase-beside (e ∷ es) (r ∷ rs) n b =
    subst (λ (m : ℕ). AreBeside (erase (e ∷ es) n) (if eqb m n then rs else r ∷ erase rs n)) b.0 (cases (eqb (lsp_number e.0) n) (erase-beside es rs n b.1))
  where
    cases : (t : Bool) → AreBeside (erase es n) (erase rs n) → AreBeside (if t then es else e ∷ erase es n) (if t then rs else r ∷ erase rs n)
    cases true h = b.1
    cases false h = (b.0, h)

pub erase-headers : (es : List (LspId × Entry)) (n : ℕ) → AllHaveHeaders es → AllHaveHeaders (erase es n)
erase-headers [] n a = tt
erase-headers (e ∷ es) n a = cases (eqb (lsp_number e.0) n) (erase-headers es n a.1)
  where
    cases : (t : Bool) → AllHaveHeaders (erase es n) → AllHaveHeaders (if t then es else e ∷ erase es n)
    cases true h = a.1
    cases false h = (a.0, h)

-- ---- what is changed in place

found-least : {T : Type 0} (m : List (LspId × T)) (n least : ℕ) (v : T) → RisesFrom least m → find m n ≡ Some v → least ≤ n
found-least [] n least v up e = absurd (grind (arith, e))
found-least (p ∷ m) n least v up e =
    let h = up.0 in
    let rest = λ (f : find m n ≡ Some v). found-least m n (pair_number p + 1) v up.1 f in
    grind (arith, nat_tests, h, e, rest)

-- an entry and its row are changed together
pub change-cells : (f : Entry → Entry) (g : FlagRow → FlagRow) (es : List (LspId × Entry)) (rs : List (LspId × FlagRow)) (n least : ℕ) (entry : Entry) (row : FlagRow) → AreBeside es rs → RisesFrom least es → find es n ≡ Some entry → find rs n ≡ Some row → cells_of (change_at f es n) (change_at g rs n) ≡ cells.put (cells_of es rs) n (cell_of (f entry) (g row))
unfolding cells.put
change-cells f g [] rs n least entry row b up e h = absurd (grind (arith, e))
change-cells f g (p ∷ es) [] n least entry row b up e h = absurd b
change-cells f g (p ∷ es) (r ∷ rs) n least entry row b up e h =
    let same = b.0 in
    let rest = λ (e' : find es n ≡ Some entry) (h' : find rs n ≡ Some row). change-cells f g es rs n (lsp_number p.0 + 1) entry row b.1 up.1 e' h' in
    let low = λ (e' : find es n ≡ Some entry). found-least es n (lsp_number p.0 + 1) entry up.1 e' in
    grind (arith, nat_tests, same, e, h, rest, low)

pub change-beside : (f : Entry → Entry) (g : FlagRow → FlagRow) (es : List (LspId × Entry)) (rs : List (LspId × FlagRow)) (n : ℕ) → AreBeside es rs → AreBeside (change_at f es n) (change_at g rs n)
change-beside f g [] [] n b = tt
change-beside f g [] (r ∷ rs) n b = absurd b
change-beside f g (e ∷ es) [] n b = absurd b
change-beside f g (e ∷ es) (r ∷ rs) n b =
    subst (λ (m : ℕ). AreBeside (change_at f (e ∷ es) n) (if eqb m n then (r.0, g r.1) ∷ rs else r ∷ change_at g rs n)) b.0 (cases (eqb (lsp_number e.0) n) (change-beside f g es rs n b.1))
  where
    cases : (t : Bool) → AreBeside (change_at f es n) (change_at g rs n) → AreBeside (if t then (e.0, f e.1) ∷ es else e ∷ change_at f es n) (if t then (r.0, g r.1) ∷ rs else r ∷ change_at g rs n)
    cases true h = (b.0, b.1)
    cases false h = (b.0, h)

pub change-headers : (f : Entry → Entry) (es : List (LspId × Entry)) (n : ℕ) → ((e : Entry) → HasHeader e.key e.octets → HasHeader (f e).key (f e).octets) → AllHaveHeaders es → AllHaveHeaders (change_at f es n)
change-headers f [] n h a = tt
change-headers f (e ∷ es) n h a = cases (eqb (lsp_number e.0) n) (change-headers f es n h a.1)
  where
    cases : (t : Bool) → AllHaveHeaders (change_at f es n) → AllHaveHeaders (if t then (e.0, f e.1) ∷ es else e ∷ change_at f es n)
    cases true g = (h e.1 a.0, a.1)
    cases false g = (a.0, g)

pub same-change : {T : Type 0} (xs : List (LspId × T)) (n : ℕ) → change_at (λ v. v) xs n ≡ xs
same-change [] n = refl
same-change (x ∷ xs) n = grind (arith, nat_tests, same-change xs n)

pub find-change : {T : Type 0} (f : T → T) (xs : List (LspId × T)) (n : ℕ) (v : T) → find xs n ≡ Some v → find (change_at f xs n) n ≡ Some (f v)
find-change f [] n v e = absurd (grind (arith, e))
find-change f (x ∷ xs) n v e =
    let rest = λ (h : find xs n ≡ Some v). find-change f xs n v h in
    grind (arith, nat_tests, e, rest)

pub absent-change : {T : Type 0} (f : T → T) (xs : List (LspId × T)) (n : ℕ) → find xs n ≡ None → change_at f xs n ≡ xs
absent-change f [] n e = refl
absent-change f (x ∷ xs) n e = grind (arith, nat_tests, e, absent-change f xs n)

pub found-header : (es : List (LspId × Entry)) (n : ℕ) (entry : Entry) → AllHaveHeaders es → find es n ≡ Some entry → HasHeader entry.key entry.octets
found-header [] n entry a e = absurd (grind (arith, e))
found-header (x ∷ es) n entry a e = cases (eqb (lsp_number x.0) n) e (λ q. found-header es n entry a.1 q)
  where
    cases : (t : Bool) → (if t then Some x.1 else find es n) ≡ Some entry → (find es n ≡ Some entry → HasHeader entry.key entry.octets) → HasHeader entry.key entry.octets
    cases true q rest = let same : x.1 ≡ entry = grind (arith, q) in subst (λ (y : Entry). HasHeader y.key y.octets) same a.0
    cases false q rest = rest q

pub absent-erase : {T : Type 0} (xs : List (LspId × T)) (n : ℕ) → find xs n ≡ None → erase xs n ≡ xs
absent-erase [] n e = refl
absent-erase (x ∷ xs) n e = grind (arith, nat_tests, e, absent-erase xs n)

-- ---- all rows

pub each-cells : (g : FlagRow → FlagRow) (f : Cell → Cell) → ((entry : Entry) (row : FlagRow) → cell_of entry (g row) ≡ f (cell_of entry row)) → (es : List (LspId × Entry)) (rs : List (LspId × FlagRow)) → cells_of es (change_all g rs) ≡ cells.each (λ (_ : ℕ) (cell : Cell). f cell) (cells_of es rs)
unfolding cells.each
each-cells g f h [] rs = refl
each-cells g f h (e ∷ es) [] = refl
each-cells g f h (e ∷ es) (r ∷ rs) = ap₂ (λ (c : Cell) (cs : List (ℕ × Cell)). (lsp_number e.0, c) ∷ cs) (h e.1 r.1) (each-cells g f h es rs)

pub each-beside : (g : FlagRow → FlagRow) (es : List (LspId × Entry)) (rs : List (LspId × FlagRow)) → AreBeside es rs → AreBeside es (change_all g rs)
each-beside g [] [] b = tt
each-beside g [] (r ∷ rs) b = absurd b
each-beside g (e ∷ es) [] b = absurd b
each-beside g (e ∷ es) (r ∷ rs) b = (b.0, each-beside g es rs b.1)

-- ---- one of the two sides alone

pub rows-beside : (g : FlagRow → FlagRow) (es : List (LspId × Entry)) (rs : List (LspId × FlagRow)) (n : ℕ) → AreBeside es rs → AreBeside es (change_at g rs n)
rows-beside g es rs n b = subst (λ (xs : List (LspId × Entry)). AreBeside xs (change_at g rs n)) (same-change es n) (change-beside (λ v. v) g es rs n b)

pub entries-beside : (f : Entry → Entry) (es : List (LspId × Entry)) (rs : List (LspId × FlagRow)) (n : ℕ) → AreBeside es rs → AreBeside (change_at f es n) rs
entries-beside f es rs n b = subst (λ (xs : List (LspId × FlagRow)). AreBeside (change_at f es n) xs) (same-change rs n) (change-beside f (λ v. v) es rs n b)

-- a purge has the octets of a header
pub purged-header : (entry : Entry) → HasHeader entry.key entry.octets → HasHeader (purged_entry entry).key (purged_entry entry).octets
purged-header entry h = cases (nat_lt (length entry.octets) 27) refl
  where
    header : (key : Option Key) → 27 ≤ length entry.octets → HasHeader (key_purged key) (header_of entry.octets)
    header None long = tt
    header (Some key) long = let size = header-length entry.octets long in omega (arith, size)

    cases : (t : Bool) → nat_lt (length entry.octets) 27 ≡ t → HasHeader (if t then entry else record entry { key = key_purged entry.key; checksum = 0; left = 60; octets = header_of entry.octets }).key (if t then entry else record entry { key = key_purged entry.key; checksum = 0; left = 60; octets = header_of entry.octets }).octets
    cases true e = h
    cases false e = header entry.key (grind (arith, nat_tests, e))

pub has-header : (key : Option Key) (octets : List ℕ) → 27 ≤ length octets → HasHeader key octets
has-header None octets long = tt
has-header (Some key) octets long = long

-- room for rows stays as large as that for entries
pub put-room : (es : List (LspId × Entry)) (rs : List (LspId × FlagRow)) (n a b : ℕ) → AreBeside es rs → a ≤ b → (if is_some (find es n) then a else a - 1) ≤ (if is_some (find rs n) then b else b - 1)
put-room es rs n a b beside le = elim (both-or-none es rs n beside) [
  | inl h ↦ rw (h.0, h.1) (omega (arith, le))
  | inr h ↦ rw (h.2, h.3) le
]
