-- The circuits that may have flags set, as rows change.
use Rattle.std.proofs.Common.{◌≡◌, ◌==◌, ◌&&◌, ◌||◌, not, Bool, true, false, if◌then◌else◌, nat_lt, ℕ, ◌<◌, max, List, [], ◌∷◌, bit_or, refl, sym, ap, ap₂, ◌∙◌, arith}
use Rattle.std.proofs.lemmas.Bool.Decides.{nat_tests}
use Rattle.std.specs.Int.{bit_at}
use Rattle.std.proofs.lemmas.Nat.Bits.{bit_at_or, bit_at-lt}
use Rattle.isis_base.specs.declared.identifiers.LspId.{LspId}
use Rattle.isis_base.specs.declared.level.Level.{Level}
use Rattle.isis_base.specs.Identifiers.{lsp_number}
use Rattle.model_router.specs.Sets.{has, with_one, without}
use Rattle.model_router.specs.Pulls.{due_lsps}
use Rattle.model_router.proofs.SetLemmas.{has-with_one, has-without}
use Rattle.lsp_store.specs.declared.entry.Entry.{Entry}
use Rattle.lsp_store.specs.Maps.{pair_number, put, erase, change_at, change_all}
use Rattle.flag_sync.specs.declared.deed.Deed.{Deed}
use Rattle.flag_sync.specs.declared.deed.SrmDeed.{SrmDeed}
use Rattle.flag_sync.specs.declared.deed.SrmDeed.TheVariants as srm
use Rattle.flag_sync.specs.declared.deed.SsnDeed.{SsnDeed}
use Rattle.flag_sync.specs.declared.deed.SsnDeed.TheVariants as ssn
use Rattle.flag_sync.specs.declared.flag_row.FlagRow.{FlagRow}
use Rattle.flag_sync.specs.FlagRows.{srm_done, ssn_done, done}
use Rattle.flag_sync.specs.Walks.{row_due, done_due, due_of, owed_of}
use Rattle.flag_sync.specs.Said.{said_owed}
use Rattle.flag_sync.specs.BookStates.{cells_of, AreBeside}
use Rattle.flag_sync.specs.Among.{IsAmong, AreAmong, some_srm, some_ssn, floods_after, floods_after_all, answers_after, answers_after_all}

abbrev Rows : Type 0
Rows = List (LspId × FlagRow)

-- ---- sets

or-bits : (a b : ℕ) → a < 2 → b < 2 → (max a b == 1) ≡ (a == 1 || b == 1)
or-bits a b h k = grind (arith, nat_tests)

has-or : (s t q : ℕ) → has (bit_or s t) q ≡ (has s q || has t q)
unfolding has
has-or s t q = ap (λ (n : ℕ). n == 1) (bit_at_or s t q) ∙ or-bits (bit_at s q) (bit_at t q) (bit_at-lt s q) (bit_at-lt t q)

left-true : (a b : Bool) → a ≡ true → (a || b) ≡ true
left-true true b e = refl
left-true false b e = cc

right-true : (a b : Bool) → b ≡ true → (a || b) ≡ true
right-true true b e = refl
right-true false b e = e

or-mono : (a b c : Bool) → (b ≡ true → c ≡ true) → (a || b) ≡ true → (a || c) ≡ true
or-mono true b c f e = refl
or-mono false b c f e = f e

and-mono : (a b c : Bool) → (b ≡ true → c ≡ true) → (a && b) ≡ true → (a && c) ≡ true
and-mono true b c f e = f e
and-mono false b c f e = cc

and-right : (a b : Bool) → (a && b) ≡ true → b ≡ true
and-right true b e = e
and-right false b e = cc

has-union : (s t q : ℕ) → has s q ≡ true → has (bit_or s t) q ≡ true
has-union s t q e = has-or s t q ∙ left-true (has s q) (has t q) e

has-joined : (s t q : ℕ) → has t q ≡ true → has (bit_or s t) q ≡ true
has-joined s t q e = has-or s t q ∙ right-true (has s q) (has t q) e

has-more : (s p q : ℕ) → has s q ≡ true → has (with_one s p) q ≡ true
has-more s p q e = has-with_one s p q ∙ right-true (p == q) (has s q) e

with-mono : (s t p q : ℕ) → (has s q ≡ true → has t q ≡ true) → has (with_one s p) q ≡ true → has (with_one t p) q ≡ true
with-mono s t p q f e = has-with_one t p q ∙ or-mono (p == q) (has s q) (has t q) f (sym (has-with_one s p q) ∙ e)

without-less : (s p q : ℕ) → has (without s p) q ≡ true → has s q ≡ true
without-less s p q e = and-right (not (p == q)) (has s q) (sym (has-without s p q) ∙ e)

without-mono : (s t p q : ℕ) → (has s q ≡ true → has t q ≡ true) → has (without s p) q ≡ true → has (without t p) q ≡ true
without-mono s t p q f e = has-without t p q ∙ and-mono (not (p == q)) (has s q) (has t q) f (sym (has-without s p q) ∙ e)

-- ---- a row

pub row-union : (f a g b : ℕ) (row : FlagRow) → IsAmong f a row → IsAmong (bit_or f g) (bit_or a b) row
row-union f a g b row m = record {
  srm = λ q e. has-union f g q (m.srm q e);
  ssn = λ q e. has-union a b q (m.ssn q e);
}

pub row-joined : (f a : ℕ) (row : FlagRow) → IsAmong (bit_or f row.srm) (bit_or a row.ssn) row
row-joined f a row = record {
  srm = λ q e. has-joined f row.srm q e;
  ssn = λ q e. has-joined a row.ssn q e;
}

srm-kept : (d : SrmDeed) (p f : ℕ) (row : FlagRow) → ((q : ℕ) → has row.srm q ≡ true → has f q ≡ true) → (q : ℕ) → has (srm_done d p row).srm q ≡ true → has (floods_after d p f) q ≡ true
srm-kept srm.Keep p f row m q e = m q e
srm-kept srm.Set p f row m q e = with-mono row.srm f p q (m q) e
srm-kept srm.Clear p f row m q e = m q (without-less row.srm p q e)
srm-kept srm.Wait p f row m q e = m q e

srm-all : (d : SrmDeed) (p f : ℕ) (row : FlagRow) → ((q : ℕ) → has row.srm q ≡ true → has f q ≡ true) → (q : ℕ) → has (srm_done d p row).srm q ≡ true → has (floods_after_all d p f) q ≡ true
srm-all srm.Keep p f row m q e = m q e
srm-all srm.Set p f row m q e = with-mono row.srm f p q (m q) e
srm-all srm.Clear p f row m q e = without-mono row.srm f p q (m q) e
srm-all srm.Wait p f row m q e = m q e

ssn-kept : (d : SsnDeed) (p a : ℕ) (row : FlagRow) → ((q : ℕ) → has row.ssn q ≡ true → has a q ≡ true) → (q : ℕ) → has (ssn_done d p row).ssn q ≡ true → has (answers_after d p a) q ≡ true
ssn-kept ssn.Keep p a row m q e = m q e
ssn-kept ssn.Set p a row m q e = with-mono row.ssn a p q (m q) e
ssn-kept ssn.Clear p a row m q e = m q (without-less row.ssn p q e)

ssn-all : (d : SsnDeed) (p a : ℕ) (row : FlagRow) → ((q : ℕ) → has row.ssn q ≡ true → has a q ≡ true) → (q : ℕ) → has (ssn_done d p row).ssn q ≡ true → has (answers_after_all d p a) q ≡ true
ssn-all ssn.Keep p a row m q e = m q e
ssn-all ssn.Set p a row m q e = with-mono row.ssn a p q (m q) e
ssn-all ssn.Clear p a row m q e = without-mono row.ssn a p q (m q) e

-- a deed on SRM leaves SSN, and one on SSN leaves SRM
same-ssn : (d : SrmDeed) (p : ℕ) (row : FlagRow) → (srm_done d p row).ssn ≡ row.ssn
same-ssn srm.Keep p row = refl
same-ssn srm.Set p row = refl
same-ssn srm.Clear p row = refl
same-ssn srm.Wait p row = refl

same-srm : (d : SsnDeed) (p : ℕ) (row : FlagRow) → (ssn_done d p row).srm ≡ row.srm
same-srm ssn.Keep p row = refl
same-srm ssn.Set p row = refl
same-srm ssn.Clear p row = refl

pub row-done : (deed : Deed) (f a : ℕ) (row : FlagRow) → IsAmong f a row → IsAmong (floods_after deed.srm deed.place f) (answers_after deed.ssn deed.place a) (done deed row)
row-done deed f a row m = record {
  srm = λ q e. srm-kept deed.srm deed.place f row m.srm q (sym (ap (λ (s : ℕ). has s q) (same-srm deed.ssn deed.place (srm_done deed.srm deed.place row))) ∙ e);
  ssn = ssn-kept deed.ssn deed.place a (srm_done deed.srm deed.place row) (λ q e. m.ssn q (sym (ap (λ (s : ℕ). has s q) (same-ssn deed.srm deed.place row)) ∙ e));
}

pub row-all-done : (deed : Deed) (f a : ℕ) (row : FlagRow) → IsAmong f a row → IsAmong (floods_after_all deed.srm deed.place f) (answers_after_all deed.ssn deed.place a) (done deed row)
row-all-done deed f a row m = record {
  srm = λ q e. srm-all deed.srm deed.place f row m.srm q (sym (ap (λ (s : ℕ). has s q) (same-srm deed.ssn deed.place (srm_done deed.srm deed.place row))) ∙ e);
  ssn = ssn-all deed.ssn deed.place a (srm_done deed.srm deed.place row) (λ q e. m.ssn q (sym (ap (λ (s : ℕ). has s q) (same-ssn deed.srm deed.place row)) ∙ e));
}

-- the row itself stays among those, whatever the deed
floods-more : (d : SrmDeed) (p f q : ℕ) → has f q ≡ true → has (floods_after d p f) q ≡ true
floods-more srm.Keep p f q e = e
floods-more srm.Set p f q e = has-more f p q e
floods-more srm.Clear p f q e = e
floods-more srm.Wait p f q e = e

answers-more : (d : SsnDeed) (p a q : ℕ) → has a q ≡ true → has (answers_after d p a) q ≡ true
answers-more ssn.Keep p a q e = e
answers-more ssn.Set p a q e = has-more a p q e
answers-more ssn.Clear p a q e = e

pub row-stays : (deed : Deed) (f a : ℕ) (row : FlagRow) → IsAmong f a row → IsAmong (floods_after deed.srm deed.place f) (answers_after deed.ssn deed.place a) row
row-stays deed f a row m = record {
  srm = λ q e. floods-more deed.srm deed.place f q (m.srm q e);
  ssn = λ q e. answers-more deed.ssn deed.place a q (m.ssn q e);
}

pub row-due-done : (deed : Deed) (f a : ℕ) (row : FlagRow) → IsAmong f a row → IsAmong (floods_after deed.srm deed.place f) (answers_after deed.ssn deed.place a) (done_due deed row)
row-due-done deed f a row m = cases (row_due deed.place row)
  where
    cases : (t : Bool) → IsAmong (floods_after deed.srm deed.place f) (answers_after deed.ssn deed.place a) (if t then done deed row else row)
    cases true = row-done deed f a row m
    cases false = row-stays deed f a row m

-- ---- all rows

pub all-among : (f a g b : ℕ) (rows : Rows) → ((row : FlagRow) → IsAmong f a row → IsAmong g b row) → AreAmong f a rows → AreAmong g b rows
all-among f a g b [] to m = tt
all-among f a g b (r ∷ rows) to m = (to r.1 m.0, all-among f a g b rows to m.1)

pub put-among : (f a : ℕ) (rows : Rows) (id : LspId) (row : FlagRow) → IsAmong f a row → AreAmong f a rows → AreAmong f a (put rows id row)
put-among f a [] id row one m = (one, tt)
put-among f a (r ∷ rows) id row one m = cases (pair_number r == lsp_number id) (nat_lt (lsp_number id) (pair_number r)) (put-among f a rows id row one m.1)
  where
    cases : (t u : Bool) → AreAmong f a (put rows id row) → AreAmong f a (if t then (id, row) ∷ rows else (if u then (id, row) ∷ r ∷ rows else r ∷ put rows id row))
    cases true u rest = (one, m.1)
    cases false true rest = (one, m)
    cases false false rest = (m.0, rest)

pub erase-among : (f a : ℕ) (rows : Rows) (n : ℕ) → AreAmong f a rows → AreAmong f a (erase rows n)
erase-among f a [] n m = tt
erase-among f a (r ∷ rows) n m = cases (pair_number r == n) (erase-among f a rows n m.1)
  where
    cases : (t : Bool) → AreAmong f a (erase rows n) → AreAmong f a (if t then rows else r ∷ erase rows n)
    cases true rest = m.1
    cases false rest = (m.0, rest)

pub change-among : (f a : ℕ) (g : FlagRow → FlagRow) (rows : Rows) (n : ℕ) → ((row : FlagRow) → IsAmong f a row → IsAmong f a (g row)) → AreAmong f a rows → AreAmong f a (change_at g rows n)
change-among f a g [] n to m = tt
change-among f a g (r ∷ rows) n to m = cases (pair_number r == n) (change-among f a g rows n to m.1)
  where
    cases : (t : Bool) → AreAmong f a (change_at g rows n) → AreAmong f a (if t then (r.0, g r.1) ∷ rows else r ∷ change_at g rows n)
    cases true rest = (to r.1 m.0, m.1)
    cases false rest = (m.0, rest)

pub deed-among : (deed : Deed) (f a : ℕ) (rows : Rows) (n : ℕ) → AreAmong f a rows → AreAmong (floods_after deed.srm deed.place f) (answers_after deed.ssn deed.place a) (change_at (done deed) rows n)
deed-among deed f a [] n m = tt
deed-among deed f a (r ∷ rows) n m = cases (pair_number r == n) (deed-among deed f a rows n m.1)
  where
    cases : (t : Bool) → AreAmong (floods_after deed.srm deed.place f) (answers_after deed.ssn deed.place a) (change_at (done deed) rows n) → AreAmong (floods_after deed.srm deed.place f) (answers_after deed.ssn deed.place a) (if t then (r.0, done deed r.1) ∷ rows else r ∷ change_at (done deed) rows n)
    cases true rest = (row-done deed f a r.1 m.0, all-among f a (floods_after deed.srm deed.place f) (answers_after deed.ssn deed.place a) rows (row-stays deed f a) m.1)
    cases false rest = (row-stays deed f a r.1 m.0, rest)

pub each-among : (f a g b : ℕ) (to : FlagRow → FlagRow) (rows : Rows) → ((row : FlagRow) → IsAmong f a row → IsAmong g b (to row)) → AreAmong f a rows → AreAmong g b (change_all to rows)
each-among f a g b to [] h m = tt
each-among f a g b to (r ∷ rows) h m = (h r.1 m.0, each-among f a g b to rows h m.1)

-- ---- a circuit without flags

or-left : (a b : Bool) → (a || b) ≡ false → a ≡ false
or-left true b e = cc
or-left false b e = refl

or-right : (a b : Bool) → (a || b) ≡ false → b ≡ false
or-right true b e = cc
or-right false b e = e

not-true : (t u : Bool) → (t ≡ true → u ≡ true) → u ≡ false → t ≡ false
not-true true u f e = sym (f refl) ∙ e
not-true false u f e = refl

pub none-srm : (f a p : ℕ) (rows : Rows) → AreAmong f a rows → has f p ≡ false → some_srm p rows ≡ false
none-srm f a p [] m e = refl
none-srm f a p (r ∷ rows) m e = rw (not-true (has r.1.srm p) (has f p) (m.0.srm p) e) (none-srm f a p rows m.1 e)

pub none-ssn : (f a p : ℕ) (rows : Rows) → AreAmong f a rows → has a p ≡ false → some_ssn p rows ≡ false
none-ssn f a p [] m e = refl
none-ssn f a p (r ∷ rows) m e = rw (not-true (has r.1.ssn p) (has a p) (m.0.ssn p) e) (none-ssn f a p rows m.1 e)

-- a circuit without SRM leaves those that may have it
other-circuit : (s t p q : ℕ) → has s p ≡ false → (has s q ≡ true → has t q ≡ true) → has s q ≡ true → has (without t p) q ≡ true
other-circuit s t p q none f e = has-without t p q ∙ and-both (not (p == q)) (has t q) (differs (p == q) refl) (f e)
  where
    and-both : (a b : Bool) → a ≡ true → b ≡ true → (a && b) ≡ true
    and-both true b k h = h
    and-both false b k h = cc

    differs : (u : Bool) → (p == q) ≡ u → not u ≡ true
    differs false k = refl
    differs true k =
        let same : p ≡ q = grind (arith, nat_tests, k) in
        let clash : false ≡ true = sym none ∙ ap (has s) same ∙ e in
        cc

pub among-without : (f a p : ℕ) (rows : Rows) → some_srm p rows ≡ false → AreAmong f a rows → AreAmong (without f p) a rows
among-without f a p [] e m = tt
among-without f a p (r ∷ rows) e m = (
  record {
    srm = λ q h. other-circuit r.1.srm f p q (or-left (has r.1.srm p) (some_srm p rows) e) (m.0.srm q) h;
    ssn = m.0.ssn;
  },
  among-without f a p rows (or-right (has r.1.srm p) (some_srm p rows) e) m.1,
)

not-due : (p : ℕ) (row : FlagRow) → has row.srm p ≡ false → row_due p row ≡ false
not-due p row e = rw e refl

pub none-changed : (deed : Deed) (rows : Rows) → some_srm deed.place rows ≡ false → change_all (done_due deed) rows ≡ rows
none-changed deed [] e = refl
none-changed deed (r ∷ rows) e =
    ap₂ (λ (x : FlagRow) (xs : Rows). (r.0, x) ∷ xs)
    (rw (not-due deed.place r.1 (or-left (has r.1.srm deed.place) (some_srm deed.place rows) e)) refl)
    (none-changed deed rows (or-right (has r.1.srm deed.place) (some_srm deed.place rows) e))

pub none-due : (p : ℕ) (rows : Rows) → some_srm p rows ≡ false → due_of p rows ≡ []
none-due p [] e = refl
none-due p (r ∷ rows) e =
    rw (not-due p r.1 (or-left (has r.1.srm p) (some_srm p rows) e)) (none-due p rows (or-right (has r.1.srm p) (some_srm p rows) e))

pub none-owed : (p : ℕ) (rows : Rows) → some_ssn p rows ≡ false → owed_of p rows ≡ []
none-owed p [] e = refl
none-owed p (r ∷ rows) e =
    rw (or-left (has r.1.ssn p) (some_ssn p rows) e) (none-owed p rows (or-right (has r.1.ssn p) (some_ssn p rows) e))

pub none-said : (p : ℕ) (entries : List (LspId × Entry)) (rows : Rows) → some_ssn p rows ≡ false → said_owed p entries rows ≡ []
none-said p [] rows e = refl
none-said p (x ∷ entries) [] e = none-said p entries [] e
none-said p (x ∷ entries) (r ∷ rows) e =
    rw (or-left (has r.1.ssn p) (some_ssn p rows) e) (none-said p entries rows (or-right (has r.1.ssn p) (some_ssn p rows) e))

pub none-sent : (level : Level) (p : ℕ) (entries : List (LspId × Entry)) (rows : Rows) → AreBeside entries rows → some_srm p rows ≡ false → due_lsps level p (cells_of entries rows) ≡ []
none-sent level p [] rows b e = refl
none-sent level p (x ∷ entries) [] b e = absurd b
none-sent level p (x ∷ entries) (r ∷ rows) b e =
    rw (or-left (has r.1.srm p) (some_srm p rows) e) (none-sent level p entries rows b.1 (or-right (has r.1.srm p) (some_srm p rows) e))
