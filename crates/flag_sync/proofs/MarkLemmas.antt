-- SRM set for the LSP IDs that pass a test, by rows and by cells.
use Rattle.std.proofs.Common.{◌≡◌, ◌&&◌, ◌||◌, not, Bool, true, false, if◌then◌else◌, nat_le, ℕ, ◌+◌, ◌<◌, List, [], ◌∷◌, refl, ap, ap₂, ◌∙◌, arith}
use Rattle.std.proofs.lemmas.Bool.Decides.{nat_tests}
use Rattle.isis_base.specs.declared.identifiers.LspId.{LspId}
use Rattle.isis_base.specs.declared.entry.LspEntry.{LspEntry}
use Rattle.isis_base.specs.Identifiers.{lsp_number}
use Rattle.isis_base.specs.Keys.{rank}
use Rattle.model_router.specs.Ranks.{is_live}
use Rattle.model_router.specs.SnpTable.{lists, is_missed}
use Rattle.model_router.specs.Maps as cells
use Rattle.model_router.specs.Cells.{Cell, srm_on}
use Rattle.lsp_store.specs.declared.entry.Entry.{Entry}
use Rattle.lsp_store.specs.Maps.{change_at, between, RisesFrom}
use Rattle.flag_sync.specs.declared.flag_row.FlagRow.{FlagRow}
use Rattle.flag_sync.specs.declared.deed.SrmDeed.TheVariants as srm
use Rattle.flag_sync.specs.FlagRows.{cell_of, srm_done}
use Rattle.flag_sync.specs.Heard.{entries_of}
use Rattle.flag_sync.specs.Marks.{passes, marks, some_pass, any_cell, is_unlisted}
use Rattle.flag_sync.specs.BookStates.{cells_of, AreBeside}
use Rattle.flag_sync.proofs.CellLemmas.{rows-beside}

-- rows beside their entries, each marked where its entry passes
abbrev mark_rows : (ℕ → ℕ → Bool) → ℕ → List (LspId × Entry) → List (LspId × FlagRow) → List (LspId × FlagRow)
mark_rows t p [] rs = rs
mark_rows t p (e ∷ es) [] = []
mark_rows t p (e ∷ es) (r ∷ rs) = (r.0, if passes t e.0 e.1 then srm_done srm.Set p r.1 else r.1) ∷ mark_rows t p es rs

pub marks-beside : (t : ℕ → ℕ → Bool) (p : ℕ) (xs es : List (LspId × Entry)) (rs : List (LspId × FlagRow)) → AreBeside es rs → AreBeside es (marks t p xs rs)
marks-beside t p [] es rs b = b
marks-beside t p (x ∷ xs) es rs b = marks-beside t p xs es (if passes t x.0 x.1 then change_at (srm_done srm.Set p) rs (lsp_number x.0) else rs) (cases (passes t x.0 x.1))
  where
    cases : (u : Bool) → AreBeside es (if u then change_at (srm_done srm.Set p) rs (lsp_number x.0) else rs)
    cases true = rows-beside (srm_done srm.Set p) es rs (lsp_number x.0) b
    cases false = b

pass-by : (f : FlagRow → FlagRow) (x : LspId × FlagRow) (rs : List (LspId × FlagRow)) (n : ℕ) → lsp_number x.0 < n → change_at f (x ∷ rs) n ≡ x ∷ change_at f rs n
pass-by f x rs n lt = grind (arith, nat_tests, lt)

marks-skip : (t : ℕ → ℕ → Bool) (p least : ℕ) (x : LspId × FlagRow) (es : List (LspId × Entry)) (rs : List (LspId × FlagRow)) → lsp_number x.0 < least → RisesFrom least es → marks t p es (x ∷ rs) ≡ x ∷ marks t p es rs
marks-skip t p least x [] rs lt up = refl
marks-skip t p least x (e ∷ es) rs lt up =
    ap (λ (ys : List (LspId × FlagRow)). marks t p es ys) (cases (passes t e.0 e.1))
    ∙ marks-skip t p (lsp_number e.0 + 1) x es (if passes t e.0 e.1 then change_at (srm_done srm.Set p) rs (lsp_number e.0) else rs) (let h = up.0 in omega (arith, lt, h)) up.1
  where
    cases : (u : Bool) → (if u then change_at (srm_done srm.Set p) (x ∷ rs) (lsp_number e.0) else x ∷ rs) ≡ x ∷ (if u then change_at (srm_done srm.Set p) rs (lsp_number e.0) else rs)
    cases true = pass-by (srm_done srm.Set p) x rs (lsp_number e.0) (let h = up.0 in omega (arith, lt, h))
    cases false = refl

at-head : (f : FlagRow → FlagRow) (r : LspId × FlagRow) (rs : List (LspId × FlagRow)) (n : ℕ) → n ≡ lsp_number r.0 → change_at f (r ∷ rs) n ≡ (r.0, f r.1) ∷ rs
at-head f r rs n e = grind (arith, nat_tests, e)

marks-rows : (t : ℕ → ℕ → Bool) (p least : ℕ) (es : List (LspId × Entry)) (rs : List (LspId × FlagRow)) → RisesFrom least es → AreBeside es rs → marks t p es rs ≡ mark_rows t p es rs
marks-rows t p least [] rs up b = refl
marks-rows t p least (e ∷ es) [] up b = absurd b
marks-rows t p least (e ∷ es) (r ∷ rs) up b =
    ap (λ (ys : List (LspId × FlagRow)). marks t p es ys) (cases (passes t e.0 e.1))
    ∙ marks-skip t p (lsp_number e.0 + 1) (r.0, if passes t e.0 e.1 then srm_done srm.Set p r.1 else r.1) es rs (let same = b.0 in omega (arith, same)) up.1
    ∙ ap (λ (ys : List (LspId × FlagRow)). (r.0, if passes t e.0 e.1 then srm_done srm.Set p r.1 else r.1) ∷ ys) (marks-rows t p (lsp_number e.0 + 1) es rs up.1 b.1)
  where
    cases : (u : Bool) → (if u then change_at (srm_done srm.Set p) (r ∷ rs) (lsp_number e.0) else r ∷ rs) ≡ (r.0, if u then srm_done srm.Set p r.1 else r.1) ∷ rs
    cases true = at-head (srm_done srm.Set p) r rs (lsp_number e.0) b.0
    cases false = refl

-- a cell that is marked where it passes
abbrev pub mark_cell : (ℕ → ℕ → Bool) → ℕ → ℕ → Cell → Cell
mark_cell t p id cell = if t id cell.rank then srm_on cell p else cell

rows-cells : (t : ℕ → ℕ → Bool) (p : ℕ) (es : List (LspId × Entry)) (rs : List (LspId × FlagRow)) → AreBeside es rs → cells_of es (mark_rows t p es rs) ≡ cells.each (mark_cell t p) (cells_of es rs)
unfolding cells.each
rows-cells t p [] rs b = refl
rows-cells t p (e ∷ es) [] b = absurd b
rows-cells t p (e ∷ es) (r ∷ rs) b = ap₂ (λ (c : Cell) (cs : List (ℕ × Cell)). (lsp_number e.0, c) ∷ cs) (cases (passes t e.0 e.1)) (rows-cells t p es rs b.1)
  where
    cases : (u : Bool) → cell_of e.1 (if u then srm_done srm.Set p r.1 else r.1) ≡ (if u then srm_on (cell_of e.1 r.1) p else cell_of e.1 r.1)
    cases true = refl
    cases false = refl

pub marks-cells : (t : ℕ → ℕ → Bool) (p : ℕ) (es : List (LspId × Entry)) (rs : List (LspId × FlagRow)) → RisesFrom 0 es → AreBeside es rs → cells_of es (marks t p es rs) ≡ cells.each (mark_cell t p) (cells_of es rs)
marks-cells t p es rs up b = ap (cells_of es) (marks-rows t p 0 es rs up b) ∙ rows-cells t p es rs b

-- a walk over a part of the entries is one over all, by a sharper test
abbrev pub within : ℕ → ℕ → (ℕ → ℕ → Bool) → ℕ → ℕ → Bool
within start end t n k = nat_le start n && nat_le n end && t n k

pub marks-between : (t : ℕ → ℕ → Bool) (p start end : ℕ) (es : List (LspId × Entry)) (rs : List (LspId × FlagRow)) → marks t p (between start end es) rs ≡ marks (within start end t) p es rs
marks-between t p start end [] rs = refl
marks-between t p start end (e ∷ es) rs = cases (nat_le start (lsp_number e.0) && nat_le (lsp_number e.0) end) (marks-between t p start end es)
  where
    cases : (u : Bool) → ((qs : List (LspId × FlagRow)) → marks t p (between start end es) qs ≡ marks (within start end t) p es qs) → marks t p (if u then e ∷ between start end es else between start end es) rs ≡ marks (within start end t) p es (if u && t (lsp_number e.0) (rank e.1.key) then change_at (srm_done srm.Set p) rs (lsp_number e.0) else rs)
    cases true h = h (if t (lsp_number e.0) (rank e.1.key) then change_at (srm_done srm.Set p) rs (lsp_number e.0) else rs)
    cases false h = h rs

pub some-between : (t : ℕ → ℕ → Bool) (start end : ℕ) (es : List (LspId × Entry)) → some_pass t (between start end es) ≡ some_pass (within start end t) es
some-between t start end [] = refl
some-between t start end (e ∷ es) = cases (nat_le start (lsp_number e.0) && nat_le (lsp_number e.0) end) (some-between t start end es)
  where
    cases : (u : Bool) → some_pass t (between start end es) ≡ some_pass (within start end t) es → some_pass t (if u then e ∷ between start end es else between start end es) ≡ ((u && t (lsp_number e.0) (rank e.1.key)) || some_pass (within start end t) es)
    cases true h = ap (λ (b : Bool). t (lsp_number e.0) (rank e.1.key) || b) h
    cases false h = h

pub some-cells : (t : ℕ → ℕ → Bool) (f : ℕ → Cell → Bool) → ((n : ℕ) (cell : Cell) → t n cell.rank ≡ f n cell) → (es : List (LspId × Entry)) (rs : List (LspId × FlagRow)) → AreBeside es rs → some_pass t es ≡ any_cell f (cells_of es rs)
some-cells t f h [] [] b = refl
some-cells t f h [] (r ∷ rs) b = absurd b
some-cells t f h (e ∷ es) [] b = absurd b
some-cells t f h (e ∷ es) (r ∷ rs) b = ap₂ (λ (x y : Bool). x || y) (h (lsp_number e.0) (cell_of e.1 r.1)) (some-cells t f h es rs b.1)

-- ---- what a CSNP misses

missed-same : (a b c d : Bool) → (a && b && (c && d)) ≡ (c && a && b && d)
missed-same true true c d = and-true c d
  where
    and-true : (x y : Bool) → (x && y) ≡ (x && true && true && y)
    and-true true y = refl
    and-true false y = refl
missed-same true false true d = refl
missed-same true false false d = refl
missed-same false b true d = refl
missed-same false b false d = refl

pub is-missed : (start end : ℕ) (listed : List LspEntry) (n : ℕ) (cell : Cell) → within start end (is_unlisted listed) n cell.rank ≡ is_missed start end (entries_of listed) n cell
is-missed start end listed n cell = missed-same (nat_le start n) (nat_le n end) (is_live cell.rank) (not (lists (entries_of listed) n))

each-same : (f g : ℕ → Cell → Cell) → ((n : ℕ) (cell : Cell) → f n cell ≡ g n cell) → (m : List (ℕ × Cell)) → cells.each f m ≡ cells.each g m
unfolding cells.each
each-same f g h [] = refl
each-same f g h (x ∷ m) = ap₂ (λ (c : Cell) (cs : List (ℕ × Cell)). (x.0, c) ∷ cs) (h x.0 x.1) (each-same f g h m)

pub missed-cells : (start end : ℕ) (listed : List LspEntry) (p : ℕ) (m : List (ℕ × Cell)) → cells.each (mark_cell (within start end (is_unlisted listed)) p) m ≡ cells.each (λ (id : ℕ) (cell : Cell). if is_missed start end (entries_of listed) id cell then srm_on cell p else cell) m
missed-cells start end listed p m =
    each-same (mark_cell (within start end (is_unlisted listed)) p) (λ (id : ℕ) (cell : Cell). if is_missed start end (entries_of listed) id cell then srm_on cell p else cell) (λ n cell. ap (λ (b : Bool). if b then srm_on cell p else cell) (is-missed start end listed n cell)) m
