-- What sequence number PDUs say of entries, as the definitions say it of cells.
use Rattle.std.proofs.Common.{◌≡◌, Bool, true, false, if◌then◌else◌, ℕ, zero, suc, ◌+◌, ◌*◌, ◌≤◌, nat_lt, List, [], ◌∷◌, Option, Some, None, refl, sym, ap, ap₂, ◌∙◌, subst, arith}
use Rattle.std.proofs.lemmas.Bool.Decides.{nat_tests}
use Rattle.isis_base.specs.declared.identifiers.LspId.{LspId}
use Rattle.isis_base.specs.declared.key.Key.{Key}
use Rattle.isis_base.specs.declared.entry.LspEntry.{LspEntry}
use Rattle.isis_base.specs.Identifiers.{lsp_number}
use Rattle.isis_base.specs.Keys.{rank}
use Rattle.model_router.specs.Maps.{find}
use Rattle.model_router.specs.Sets.{has}
use Rattle.model_router.specs.Sorted as sorted
use Rattle.model_router.specs.Ranks.{is_live}
use Rattle.model_router.specs.Cells.{Cell}
use Rattle.model_router.specs.Books.{Book}
use Rattle.model_router.specs.Good.{IsGood, IsGoodCell, IsGoodBook}
use Rattle.model_router.specs.SnpTable.{SnpEntry}
use Rattle.model_router.specs.SnpLists.{snp_entry, entries_where}
use Rattle.lsp_store.specs.declared.entry.Entry.{Entry}
use Rattle.lsp_store.specs.Maps.{RisesFrom}
use Rattle.flag_sync.specs.declared.flag_row.FlagRow.{FlagRow}
use Rattle.flag_sync.specs.FlagRows.{cell_of}
use Rattle.flag_sync.specs.Heard.{entry_of, entries_of}
use Rattle.flag_sync.specs.Said.{said, key_said, is_numbered, said_keys, said_owed, SaidRise}
use Rattle.flag_sync.specs.BookStates.{cells_of, AreBeside}

-- ---- each cell of a good book is good

abbrev pub AllGood : List (ℕ × Cell) → Type 0
AllGood [] = Unit {0}
AllGood (p ∷ cells) = IsGoodCell p.1 × AllGood cells

found-least : (cells : List (ℕ × Cell)) (least n : ℕ) (c : Cell) → sorted.RisesFrom least cells → find cells n ≡ Some c → least ≤ n
found-least [] least n c r e = absurd (grind (arith, e))
found-least (p ∷ cells) least n c r e =
    let h = r.0 in
    let rest = λ (q : find cells n ≡ Some c). found-least cells (p.0 + 1) n c r.1 q in
    grind (arith, nat_tests, h, e, rest)

pub all-good : (cells : List (ℕ × Cell)) (least : ℕ) → sorted.RisesFrom least cells → ((n : ℕ) (c : Cell) → find cells n ≡ Some c → IsGoodCell c) → AllGood cells
all-good [] least r g = tt
all-good (p ∷ cells) least r g = (
  g p.0 p.1 (grind (arith, nat_tests)),
  all-good cells (p.0 + 1) r.1 (λ n c e.
      let le = found-least cells (p.0 + 1) n c r.1 e in
      g n c (grind (arith, nat_tests, e, le))),
)

pub good-cells : (b : Book) → IsGoodBook b → (n : ℕ) (c : Cell) → find b.cells n ≡ Some c → IsGoodCell c
good-cells b g n c e = (subst (IsGood n) e (g.at n)).1

-- ---- one entry

pick : (t : Bool) → t ≡ true → (a b : LspEntry) → (if t then a else b) ≡ a
pick true e a b = refl
pick false e a b = cc

-- by its number and mark
key-entry : (id : LspId) (n left sum : ℕ) (p : Bool) → 1 ≤ left → (2 * n + (if p then 1 else 0) ≡ 1 → ⊥) → entry_of (if nat_lt 0 n then record { lifetime = if p then 0 else left; id = id; number = n; checksum = if p then 0 else sum } else record { lifetime = 0; id = id; number = 0; checksum = 0 }) ≡ record { id = lsp_number id; rank = 2 * n + (if p then 1 else 0); lifetime = if is_live (2 * n + (if p then 1 else 0)) then left else 0; checksum = if is_live (2 * n + (if p then 1 else 0)) then sum else 0 }
key-entry id zero left sum true some h = absurd (h refl)
key-entry id zero left sum false some h = refl
key-entry id (suc n) left sum true some h =
    let no : is_live (2 * suc n + 1) ≡ false = grind (arith, nat_tests) in
    let yes : nat_lt 0 (suc n) ≡ true = grind (arith, nat_tests) in
    ap entry_of (pick (nat_lt 0 (suc n)) yes _ _) ∙ rw (no, yes) refl
key-entry id (suc n) left sum false some h =
    let live : is_live (2 * suc n + 0) ≡ true = grind (arith, nat_tests) in
    let yes : nat_lt 0 (suc n) ≡ true = grind (arith, nat_tests) in
    let more : nat_lt 0 left ≡ true = grind (arith, nat_tests, some) in
    ap entry_of (pick (nat_lt 0 (suc n)) yes _ _) ∙ rw (live, yes, more) refl

-- what is said of a live key, and of a purge's
pub said-entry : (id : LspId) (entry : Entry) (row : FlagRow) → IsGoodCell (cell_of entry row) → entry_of (said id entry) ≡ snp_entry (lsp_number id) (cell_of entry row)
said-entry id entry row good = cases entry.key refl good.number
  where
    cases : (key : Option Key) → entry.key ≡ key → (rank entry.key ≡ 1 → ⊥) → entry_of (key_said id entry entry.key) ≡ snp_entry (lsp_number id) (cell_of entry row)
    cases None e h = rw e refl
    cases (Some key) e h =
        let other : 2 * key.number + (if key.purged then 1 else 0) ≡ 1 → ⊥ = λ q. h (ap rank e ∙ q) in
        rw e (key-entry id key.number entry.left entry.checksum key.purged good.left other)

-- ---- all keys

pub keys-cells : (es : List (LspId × Entry)) (rs : List (LspId × FlagRow)) → AreBeside es rs → AllGood (cells_of es rs) → entries_of (said_keys es) ≡ entries_where (λ (c : Cell). nat_lt 0 c.rank) (cells_of es rs)
keys-cells [] [] b g = refl
keys-cells [] (r ∷ rs) b g = absurd b
keys-cells (e ∷ es) [] b g = absurd b
keys-cells (e ∷ es) (r ∷ rs) b g = cases (is_numbered e.1.key) (nat_lt 0 (rank e.1.key)) (some-rank e.1.key (λ q. g.0.number q)) (said-entry e.0 e.1 r.1 g.0) (keys-cells es rs b.1 g.1)
  where
    by-mark : (n : ℕ) (p : Bool) → (2 * n + (if p then 1 else 0) ≡ 1 → ⊥) → nat_lt 0 n ≡ nat_lt 0 (2 * n + (if p then 1 else 0))
    by-mark zero true h = absurd (h refl)
    by-mark zero false h = refl
    by-mark (suc n) true h = grind (arith, nat_tests)
    by-mark (suc n) false h = grind (arith, nat_tests)

    some-rank : (key : Option Key) → (rank key ≡ 1 → ⊥) → is_numbered key ≡ nat_lt 0 (rank key)
    some-rank None h = refl
    some-rank (Some key) h = by-mark key.number key.purged h

    cases : (t u : Bool) → t ≡ u → entry_of (said e.0 e.1) ≡ snp_entry (lsp_number e.0) (cell_of e.1 r.1) → entries_of (said_keys es) ≡ entries_where (λ (c : Cell). nat_lt 0 c.rank) (cells_of es rs) → entries_of (if t then said e.0 e.1 ∷ said_keys es else said_keys es) ≡ (if u then snp_entry (lsp_number e.0) (cell_of e.1 r.1) ∷ entries_where (λ (c : Cell). nat_lt 0 c.rank) (cells_of es rs) else entries_where (λ (c : Cell). nat_lt 0 c.rank) (cells_of es rs))
    cases true true q s h = ap₂ (λ (x : SnpEntry) (xs : List SnpEntry). x ∷ xs) s h
    cases true false q s h = cc
    cases false true q s h = cc
    cases false false q s h = h

pub owed-said : (place : ℕ) (es : List (LspId × Entry)) (rs : List (LspId × FlagRow)) → AreBeside es rs → AllGood (cells_of es rs) → entries_of (said_owed place es rs) ≡ entries_where (λ (c : Cell). has c.ssn place) (cells_of es rs)
owed-said place [] [] b g = refl
owed-said place [] (r ∷ rs) b g = absurd b
owed-said place (e ∷ es) [] b g = absurd b
owed-said place (e ∷ es) (r ∷ rs) b g = cases (has r.1.ssn place) (said-entry e.0 e.1 r.1 g.0) (owed-said place es rs b.1 g.1)
  where
    cases : (t : Bool) → entry_of (said e.0 e.1) ≡ snp_entry (lsp_number e.0) (cell_of e.1 r.1) → entries_of (said_owed place es rs) ≡ entries_where (λ (c : Cell). has c.ssn place) (cells_of es rs) → entries_of (if t then said e.0 e.1 ∷ said_owed place es rs else said_owed place es rs) ≡ (if t then snp_entry (lsp_number e.0) (cell_of e.1 r.1) ∷ entries_where (λ (c : Cell). has c.ssn place) (cells_of es rs) else entries_where (λ (c : Cell). has c.ssn place) (cells_of es rs))
    cases true s h = ap₂ (λ (x : SnpEntry) (xs : List SnpEntry). x ∷ xs) s h
    cases false s h = h

-- ---- in order

said-id : (id : LspId) (entry : Entry) (key : Option Key) → (key_said id entry key).id ≡ id
said-id id entry None = refl
said-id id entry (Some key) = cases (nat_lt 0 key.number)
  where
    empty : LspEntry
    empty = record { lifetime = 0; id = id; number = 0; checksum = 0 }

    full : LspEntry
    full = record { lifetime = if key.purged then 0 else entry.left; id = id; number = key.number; checksum = if key.purged then 0 else entry.checksum }

    cases : (t : Bool) → (if t then full else empty).id ≡ id
    cases true = refl
    cases false = refl

less-least : (a b : ℕ) (xs : List LspEntry) → a ≤ b → SaidRise b xs → SaidRise a xs
less-least a b [] le r = tt
less-least a b (x ∷ xs) le r = (let h = r.0 in omega (arith, h, le), r.1)

pub keys-rise : (least : ℕ) (es : List (LspId × Entry)) → RisesFrom least es → SaidRise least (said_keys es)
keys-rise least [] up = tt
keys-rise least (e ∷ es) up = cases (is_numbered e.1.key) (keys-rise (lsp_number e.0 + 1) es up.1)
  where
    here : SaidRise (lsp_number e.0 + 1) (said_keys es) → SaidRise least (said e.0 e.1 ∷ said_keys es)
    here h = subst (λ (id : LspId). (least ≤ lsp_number id) × SaidRise (lsp_number id + 1) (said_keys es)) (sym (said-id e.0 e.1 e.1.key)) (up.0, h)

    cases : (t : Bool) → SaidRise (lsp_number e.0 + 1) (said_keys es) → SaidRise least (if t then said e.0 e.1 ∷ said_keys es else said_keys es)
    cases true h = here h
    cases false h = less-least least (lsp_number e.0 + 1) (said_keys es) (let q = up.0 in omega (arith, q)) h
