-- The circuits that may have flags set, beside rows of flags (ISO 10589 7.3.15; the form: own).
use Rattle.std.specs.Prelude.{◌≡◌, ℕ, Bool, true, false, ◌||◌, List, [], ◌∷◌}
use Rattle.std.specs.List.{AllByRecursion}
use Rattle.isis_base.specs.declared.identifiers.LspId.{LspId}
use Rattle.model_router.specs.Sets.{has, with_one, without}
use Rattle.flag_sync.specs.declared.deed.SrmDeed.{SrmDeed}
use Rattle.flag_sync.specs.declared.deed.SrmDeed.TheVariants as srm
use Rattle.flag_sync.specs.declared.deed.SsnDeed.{SsnDeed}
use Rattle.flag_sync.specs.declared.deed.SsnDeed.TheVariants as ssn
use Rattle.flag_sync.specs.declared.flag_row.FlagRow.{FlagRow}

-- a circuit with SRM, or SSN, in the row is among those that may have it
pub record IsAmong (floods answers : ℕ) (row : FlagRow) : Type 0 where
  pub srm : (place : ℕ) → has row.srm place ≡ true → has floods place ≡ true
  pub ssn : (place : ℕ) → has row.ssn place ≡ true → has answers place ≡ true

abbrev pub AreAmong : ℕ → ℕ → List (LspId × FlagRow) → Type 0
AreAmong floods answers rows = AllByRecursion (λ pair. IsAmong floods answers pair.1) rows

-- whether some row has SRM on a circuit
abbrev pub some_srm : ℕ → List (LspId × FlagRow) → Bool
some_srm place [] = false
some_srm place (pair ∷ rows) = has pair.1.srm place || some_srm place rows

-- whether some row has SSN on a circuit
abbrev pub some_ssn : ℕ → List (LspId × FlagRow) → Bool
some_ssn place [] = false
some_ssn place (pair ∷ rows) = has pair.1.ssn place || some_ssn place rows

-- ---- the circuits that may have flags after a deed on one row

abbrev pub floods_after : SrmDeed → ℕ → ℕ → ℕ
floods_after srm.Keep place floods = floods
floods_after srm.Set place floods = with_one floods place
floods_after srm.Clear place floods = floods
floods_after srm.Wait place floods = floods

abbrev pub answers_after : SsnDeed → ℕ → ℕ → ℕ
answers_after ssn.Keep place answers = answers
answers_after ssn.Set place answers = with_one answers place
answers_after ssn.Clear place answers = answers

-- ---- and after a deed on all rows

abbrev pub floods_after_all : SrmDeed → ℕ → ℕ → ℕ
floods_after_all srm.Keep place floods = floods
floods_after_all srm.Set place floods = with_one floods place
floods_after_all srm.Clear place floods = without floods place
floods_after_all srm.Wait place floods = floods

abbrev pub answers_after_all : SsnDeed → ℕ → ℕ → ℕ
answers_after_all ssn.Keep place answers = answers
answers_after_all ssn.Set place answers = with_one answers place
answers_after_all ssn.Clear place answers = without answers place
