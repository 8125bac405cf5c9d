-- The LSP IDs of a circuit's flags, by rows and by cells.
use Rattle.std.proofs.Common.{◌≡◌, ◌==◌, ◌&&◌, not, Bool, true, false, if◌then◌else◌, ℕ, ◌+◌, ◌*◌, ◌<◌, slice_index, List, [], ◌∷◌, refl, sym, ap₂, arith}
use Rattle.std.proofs.lemmas.Bool.Decides.{nat_tests}
use Rattle.std.specs.Int.{bit_at}
use Rattle.std.proofs.lemmas.Nat.Bits.{bit_at-lt}
use Rattle.isis_base.specs.declared.identifiers.LspId.{LspId}
use Rattle.isis_base.specs.Identifiers.{lsp_number}
use Rattle.model_router.specs.Sets.{has}
use Rattle.model_router.specs.Cells.{Cell}
use Rattle.model_router.specs.Pulls.{srm_due}
use Rattle.lsp_store.specs.declared.entry.Entry.{Entry}
use Rattle.flag_sync.specs.declared.flag_row.FlagRow.{FlagRow}
use Rattle.flag_sync.specs.FlagRows.{cell_of}
use Rattle.flag_sync.specs.Walks.{row_due, due_of, owed_of, numbers_of, ids_where}
use Rattle.flag_sync.specs.BookStates.{cells_of, AreBeside}

no-wait : (a b c : ℕ) (s : Bool) → a < 2 → b < 2 → c < 2 → (s && not (a == 1) && not (b == 1) && not (c == 1)) ≡ (s && (a + 2 * b + 4 * c == 0))
no-wait a b c s x y z = grind (arith, nat_tests, x, y, z)

pub due-row : (place : ℕ) (entry : Entry) (row : FlagRow) → row_due place row ≡ srm_due place (cell_of entry row)
unfolding has
due-row place entry row =
    no-wait (bit_at (slice_index row.waits 0) place) (bit_at (slice_index row.waits 1) place) (bit_at (slice_index row.waits 2) place) (has row.srm place) (bit_at-lt (slice_index row.waits 0) place) (bit_at-lt (slice_index row.waits 1) place) (bit_at-lt (slice_index row.waits 2) place)

pub due-cells : (place : ℕ) (es : List (LspId × Entry)) (rs : List (LspId × FlagRow)) → AreBeside es rs → numbers_of (due_of place rs) ≡ ids_where (λ (cell : Cell). srm_due place cell) (cells_of es rs)
due-cells place [] [] b = refl
due-cells place [] (r ∷ rs) b = absurd b
due-cells place (e ∷ es) [] b = absurd b
due-cells place (e ∷ es) (r ∷ rs) b = cases (row_due place r.1) (srm_due place (cell_of e.1 r.1)) (due-row place e.1 r.1) (due-cells place es rs b.1)
  where
    cases : (t u : Bool) → t ≡ u → numbers_of (due_of place rs) ≡ ids_where (λ (cell : Cell). srm_due place cell) (cells_of es rs) → numbers_of (if t then r.0 ∷ due_of place rs else due_of place rs) ≡ (if u then lsp_number e.0 ∷ ids_where (λ (cell : Cell). srm_due place cell) (cells_of es rs) else ids_where (λ (cell : Cell). srm_due place cell) (cells_of es rs))
    cases true true q h = ap₂ (λ (n : ℕ) (ns : List ℕ). n ∷ ns) (sym b.0) h
    cases true false q h = cc
    cases false true q h = cc
    cases false false q h = h

pub owed-cells : (place : ℕ) (es : List (LspId × Entry)) (rs : List (LspId × FlagRow)) → AreBeside es rs → numbers_of (owed_of place rs) ≡ ids_where (λ (cell : Cell). has cell.ssn place) (cells_of es rs)
owed-cells place [] [] b = refl
owed-cells place [] (r ∷ rs) b = absurd b
owed-cells place (e ∷ es) [] b = absurd b
owed-cells place (e ∷ es) (r ∷ rs) b = cases (has r.1.ssn place) (owed-cells place es rs b.1)
  where
    cases : (t : Bool) → numbers_of (owed_of place rs) ≡ ids_where (λ (cell : Cell). has cell.ssn place) (cells_of es rs) → numbers_of (if t then r.0 ∷ owed_of place rs else owed_of place rs) ≡ (if t then lsp_number e.0 ∷ ids_where (λ (cell : Cell). has cell.ssn place) (cells_of es rs) else ids_where (λ (cell : Cell). has cell.ssn place) (cells_of es rs))
    cases true h = ap₂ (λ (n : ℕ) (ns : List ℕ). n ∷ ns) (sym b.0) h
    cases false h = h
