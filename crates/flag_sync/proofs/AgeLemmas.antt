-- A second less of all entries, and those that have no seconds left, as cells.
use Rattle.std.proofs.Common.{◌≡◌, Bool, true, false, if◌then◌else◌, ℕ, ◌+◌, ◌≤◌, eqb, nat_lt, nat_le, List, [], ◌∷◌, Option, Some, refl, ap, ◌∙◌, arith}
use Rattle.std.proofs.lemmas.Bool.Decides.{nat_tests}
use Rattle.std.specs.Option.{option_map}
use Rattle.isis_base.specs.declared.identifiers.LspId.{LspId}
use Rattle.isis_base.specs.Identifiers.{lsp_number}
use Rattle.model_router.specs.Maps as cells
use Rattle.model_router.specs.Sorted as sorted
use Rattle.model_router.specs.Cells.{Cell}
use Rattle.model_router.specs.Ageing.{less}
use Rattle.lsp_store.specs.declared.entry.Entry.{Entry}
use Rattle.lsp_store.specs.Maps.{pair_number, from, change_all, first_where, RisesFrom}
use Rattle.lsp_store.specs.Databases.{one_less, is_over}
use Rattle.flag_sync.specs.declared.flag_row.FlagRow.{FlagRow}
use Rattle.flag_sync.specs.FlagRows.{cell_of}
use Rattle.flag_sync.specs.Entries.{AllHaveHeaders}
use Rattle.flag_sync.specs.BookStates.{cells_of, AreBeside}
use Rattle.flag_sync.specs.Ages.{over_from, first_of, first_over}

-- ---- a second less

pub less-cells : (es : List (LspId × Entry)) (rs : List (LspId × FlagRow)) → cells_of (change_all one_less es) rs ≡ cells.each (λ (_ : ℕ) (cell : Cell). less cell) (cells_of es rs)
unfolding cells.each
less-cells [] rs = refl
less-cells (e ∷ es) [] = refl
less-cells (e ∷ es) (r ∷ rs) = ap (λ (cs : List (ℕ × Cell)). (lsp_number e.0, cell_of (one_less e.1) r.1) ∷ cs) (less-cells es rs)

pub less-beside : (es : List (LspId × Entry)) (rs : List (LspId × FlagRow)) → AreBeside es rs → AreBeside (change_all one_less es) rs
less-beside [] [] b = tt
less-beside [] (r ∷ rs) b = absurd b
less-beside (e ∷ es) [] b = absurd b
less-beside (e ∷ es) (r ∷ rs) b = (b.0, less-beside es rs b.1)

pub less-headers : (es : List (LspId × Entry)) → AllHaveHeaders es → AllHaveHeaders (change_all one_less es)
less-headers [] a = tt
less-headers (e ∷ es) a = (a.0, less-headers es a.1)

pub less-rises : (least : ℕ) (es : List (LspId × Entry)) → RisesFrom least es → RisesFrom least (change_all one_less es)
less-rises least [] up = tt
less-rises least (e ∷ es) up = (up.0, less-rises (pair_number e + 1) es up.1)

-- ---- cells in order

pub cells-rise : (least : ℕ) (es : List (LspId × Entry)) (rs : List (LspId × FlagRow)) → RisesFrom least es → AreBeside es rs → sorted.RisesFrom least (cells_of es rs)
cells-rise least [] [] up b = tt
cells-rise least [] (r ∷ rs) up b = absurd b
cells-rise least (e ∷ es) [] up b = absurd b
cells-rise least (e ∷ es) (r ∷ rs) up b = (up.0, cells-rise (pair_number e + 1) es rs up.1 b.1)

-- ---- those that have no seconds left

-- from a number on that all pairs are at or above
over-stays : (start least : ℕ) (es : List (LspId × Entry)) (rs : List (LspId × FlagRow)) → start ≤ least → RisesFrom least es → AreBeside es rs → option_map lsp_number (first_over es) ≡ first_of (over_from start (cells_of es rs))
over-stays start least [] [] le up b = refl
over-stays start least [] (r ∷ rs) le up b = absurd b
over-stays start least (e ∷ es) [] le up b = absurd b
over-stays start least (e ∷ es) (r ∷ rs) le up b =
    let h = up.0 in
    let rest = over-stays start (pair_number e + 1) es rs (omega (arith, h, le)) up.1 b.1 in
    let yes : nat_le start (lsp_number e.0) ≡ true = grind (arith, nat_tests, h, le) in
    rw yes (cases (eqb e.1.left 0) rest)
  where
    cases : (t : Bool) → option_map lsp_number (first_over es) ≡ first_of (over_from start (cells_of es rs)) → option_map lsp_number (if t then Some e.0 else first_over es) ≡ first_of (if t then lsp_number e.0 ∷ over_from start (cells_of es rs) else over_from start (cells_of es rs))
    cases true h = refl
    cases false h = h

pub over-cells : (start least : ℕ) (es : List (LspId × Entry)) (rs : List (LspId × FlagRow)) → RisesFrom least es → AreBeside es rs → option_map lsp_number (first_over (from start es)) ≡ first_of (over_from start (cells_of es rs))
over-cells start least [] [] up b = refl
over-cells start least [] (r ∷ rs) up b = absurd b
over-cells start least (e ∷ es) [] up b = absurd b
over-cells start least (e ∷ es) (r ∷ rs) up b = cases (over-cells start (pair_number e + 1) es rs up.1 b.1) (nat_lt (lsp_number e.0) start) refl
  where
    cases : option_map lsp_number (first_over (from start es)) ≡ first_of (over_from start (cells_of es rs)) → (t : Bool) → nat_lt (lsp_number e.0) start ≡ t → option_map lsp_number (first_over (if t then from start es else e ∷ es)) ≡ first_of (over_from start (cells_of (e ∷ es) (r ∷ rs)))
    cases rest true q =
        let no : nat_le start (lsp_number e.0) ≡ false = grind (arith, nat_tests, q) in
        rw no rest
    cases rest false q =
        let le : start ≤ lsp_number e.0 = grind (arith, nat_tests, q) in
        over-stays start (lsp_number e.0) (e ∷ es) (r ∷ rs) le (omega arith, up.1) b

-- the first of all
noted-over : (es : List (LspId × Entry)) → first_where is_over es ≡ first_over es
noted-over [] = refl
noted-over (e ∷ es) = ap (λ (o : Option LspId). if eqb e.1.left 0 then Some e.0 else o) (noted-over es)

pub first-cells : (es : List (LspId × Entry)) (rs : List (LspId × FlagRow)) → RisesFrom 0 es → AreBeside es rs → option_map lsp_number (first_where is_over es) ≡ first_of (over_from 0 (cells_of es rs))
first-cells es rs up b = ap (option_map lsp_number) (noted-over es) ∙ over-stays 0 0 es rs (omega arith) up b
