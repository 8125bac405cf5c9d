-- A router after what is due on a circuit was sent.
use Rattle.std.proofs.Common.{◌≡◌, ℕ, zero, suc, ◌<◌, nat_lt, Bool, true, false, if◌then◌else◌, List, [], ◌∷◌, length, Option, Some, None, IfSome, refl, sym, ap, ◌∙◌, arith}
use Rattle.std.proofs.lemmas.Bool.Decides.{nat_tests}
use Rattle.isis_base.specs.declared.identifiers.LspId.{LspId}
use Rattle.isis_base.specs.declared.entry.LspEntry.{LspEntry}
use Rattle.isis_base.specs.declared.level.Level.{Level}
use Rattle.model_router.specs.Both.{at}
use Rattle.model_router.specs.Sets.{has}
use Rattle.model_router.specs.Places.{nth, with_nth}
use Rattle.model_router.specs.Cells.{Cell}
use Rattle.model_router.specs.Routers.{Circuit, Router, book_of, with_book, with_circuit}
use Rattle.model_router.specs.SnpLists.{entries_where, snp_entry}
use Rattle.model_router.specs.Pulls.{with_part, is_csnp_due, csnp_sent, answered}
use Rattle.lsp_store.specs.declared.entry.Entry.{Entry}
use Rattle.flag_sync.specs.declared.flag_row.FlagRow.{FlagRow}
use Rattle.flag_sync.specs.FlagRows.{cell_of}
use Rattle.isis_base.specs.Identifiers.{lsp_number}
use Rattle.flag_sync.specs.Said.{said, said_owed}
use Rattle.flag_sync.specs.BookStates.{cells_of}
use Rattle.router_core.specs.Pulled.{on_place, csnps_gone, after_csnps, after_lsps, after_psnps, after_level}

-- ---- the circuit of a number is there

-- what holds of the circuit that is there
pub on-there : {A : Type 0} (xs : List A) (i : ℕ) (P : Option A → Type 0) → i < length xs → ((x : A) → nth xs i ≡ Some x → P (Some x)) → P (nth xs i)
on-there [] i P h f = absurd (omega (arith, h))
on-there (x ∷ xs) zero P h f = f x refl
on-there (x ∷ xs) (suc i) P h f = on-there xs i P (omega (arith, h)) f

pub length-with : {A : Type 0} (xs : List A) (i : ℕ) (y : A) → length (with_nth xs i y) ≡ length xs
length-with [] i y = refl
length-with (x ∷ xs) zero y = refl
length-with (x ∷ xs) (suc i) y = ap suc (length-with xs i y)

-- what becomes of a router on a circuit, where a test of it passes
pub gone-then : (r new : Router) (place : ℕ) (b : Bool) (test : Circuit → Bool) (f : Circuit → Router) → place < length r.circuits → b ≡ true → IfSome (nth r.circuits place) (λ c. b ≡ test c) → IfSome (nth r.circuits place) (λ c. new ≡ f c) → new ≡ on_place (nth r.circuits place) r (λ c. if test c then f c else r)
gone-then r new place b test f h t =
    on-there r.circuits place (λ o. IfSome o (λ c. b ≡ test c) → IfSome o (λ c. new ≡ f c) → new ≡ on_place o r (λ c. if test c then f c else r)) h
    (λ x n q e. e ∙ ap (λ (k : Bool). if k then f x else r) (sym t ∙ q))

-- and where it doesn't
pub gone-else : (r : Router) (place : ℕ) (b : Bool) (test : Circuit → Bool) (f : Circuit → Router) → place < length r.circuits → b ≡ false → IfSome (nth r.circuits place) (λ c. b ≡ test c) → r ≡ on_place (nth r.circuits place) r (λ c. if test c then f c else r)
gone-else r place b test f h t =
    on-there r.circuits place (λ o. IfSome o (λ c. b ≡ test c) → r ≡ on_place o r (λ c. if test c then f c else r)) h
    (λ x n q. ap (λ (k : Bool). if k then f x else r) (sym t ∙ q))

-- a circuit's change, and a book's behind it
pub then-answered : (o : Option Circuit) (r mid new : Router) (place : ℕ) (l : Level) (f : Circuit → Circuit) → IfSome o (λ c. mid ≡ with_circuit r place (f c)) → new ≡ with_book mid l (answered (book_of mid l) place) → IfSome o (λ c. new ≡ with_book (with_circuit r place (f c)) l (answered (book_of r l) place))
then-answered None r mid new place l f h e = h
then-answered (Some c) r mid new place l f h e =
    e ∙ ap (λ (q : Router). with_book q l (answered (book_of q l) place)) h

-- ---- what is owed

owed-count : (place : ℕ) (es : List (LspId × Entry)) (rs : List (LspId × FlagRow)) → length (said_owed place es rs) ≡ length (entries_where (λ (c : Cell). has c.ssn place) (cells_of es rs))
owed-count place [] rs = refl
owed-count place (e ∷ es) [] = none es
  where
    none : (xs : List (LspId × Entry)) → length (said_owed place xs []) ≡ 0
    none [] = refl
    none (x ∷ xs) = none xs
owed-count place (e ∷ es) (r ∷ rs) = of (has r.1.ssn place) (owed-count place es rs)
  where
    of : (b : Bool) → length (said_owed place es rs) ≡ length (entries_where (λ (c : Cell). has c.ssn place) (cells_of es rs)) → length (if b then said e.0 e.1 ∷ said_owed place es rs else said_owed place es rs) ≡ length (if b then snp_entry (lsp_number e.0) (cell_of e.1 r.1) ∷ entries_where (λ (c : Cell). has c.ssn place) (cells_of es rs) else entries_where (λ (c : Cell). has c.ssn place) (cells_of es rs))
    of true h = ap suc h
    of false h = h

pub owed-some : (place : ℕ) (es : List (LspId × Entry)) (rs : List (LspId × FlagRow)) (x : LspEntry) (xs : List LspEntry) → said_owed place es rs ≡ x ∷ xs → true ≡ nat_lt 0 (length (entries_where (λ (c : Cell). has c.ssn place) (cells_of es rs)))
owed-some place es rs x xs e = some (length xs) ∙ ap (λ (n : ℕ). nat_lt 0 n) (sym (ap length e) ∙ owed-count place es rs)
  where
    some : (n : ℕ) → true ≡ nat_lt 0 (suc n)
    some n = grind (arith, nat_tests)

pub owed-none : (place : ℕ) (es : List (LspId × Entry)) (rs : List (LspId × FlagRow)) → said_owed place es rs ≡ [] → false ≡ nat_lt 0 (length (entries_where (λ (c : Cell). has c.ssn place) (cells_of es rs)))
owed-none place es rs e = ap (λ (n : ℕ). nat_lt 0 n) (sym (ap length e) ∙ owed-count place es rs)

-- ---- the circuits stay as many

pub csnps-length : (r : Router) (place : ℕ) (l : Level) → length (after_csnps r place l).circuits ≡ length r.circuits
unfolding after_csnps
csnps-length r place l = on (nth r.circuits place)
  where
    of : (b : Bool) (x : Circuit) → length (if b then with_circuit r place x else r).circuits ≡ length r.circuits
    of true x = length-with r.circuits place x
    of false x = refl

    on : (o : Option Circuit) → length (on_place o r (csnps_gone r place l)).circuits ≡ length r.circuits
    on None = refl
    on (Some c) = of (is_csnp_due r.config place c l) (with_part c l (csnp_sent c.lan (at c.levels l)))

-- a level's part
pub level-then : (r a b new : Router) (place : ℕ) (l : Level) → has (book_of r l).opened place ≡ true → a ≡ after_csnps r place l → b ≡ after_lsps a place l → new ≡ after_psnps b place l → new ≡ after_level r place l
unfolding after_level
level-then r a b new place l t e f g =
    g ∙ (ap (λ (q : Router). after_psnps q place l) f
    ∙ (ap (λ (q : Router). after_psnps (after_lsps q place l) place l) e
    ∙ ap (λ (k : Bool). if k then after_psnps (after_lsps (after_csnps r place l) place l) place l else r) (sym t)))

pub level-else : (r : Router) (place : ℕ) (l : Level) → has (book_of r l).opened place ≡ false → r ≡ after_level r place l
unfolding after_level
level-else r place l t = ap (λ (k : Bool). if k then after_psnps (after_lsps (after_csnps r place l) place l) place l else r) (sym t)
