-- How ranges that were taken are kept by their moments (own).
use Rattle.std.specs.Prelude.{◌≡◌, ℕ, ◌^◌, ◌<◌, Bool, true, false, ◌||◌, List, [], ◌∷◌, Option, Some, None, IfSome}
use Rattle.std.specs.declared.cmp.Ordering.{Ordering}
use Rattle.std.specs.BTreeMap.{BTreeMap}
use Rattle.std.specs.BTreeMap as tree
use Rattle.isis_base.specs.Identifiers.{lsp_number}
use Rattle.snp_exchange.specs.declared.sweep.Swept.{Swept}
use Rattle.snp_exchange.specs.declared.sweep.Swept.TheVariants as swept
use Rattle.snp_exchange.specs.Sweeps.{covers, in_range}
use Rattle.model_network.specs.Networks.{Taking}
use Rattle.lab_facts.specs.declared.key.SweepKey.{SweepKey}
use Rattle.lab_facts.specs.contracts.key.SweepKeyOrd.TheImpl as key_ord
use Rattle.lab_facts.specs.declared.sweeps.Streak.{Streak}
use Rattle.lab_facts.specs.declared.sweeps.Taken.{Taken}
use Rattle.lab_facts.specs.Sweeps.{taking_at, is_covered}

-- the order of moments
abbrev pub order : SweepKey → SweepKey → Ordering
order = (key_ord.ghosts).cmp

-- whether what is kept of a moment has an LSP ID
abbrev pub covers_in : Option Streak → ℕ → Bool
covers_in None id = false
covers_in (Some s) id = covers s.sweep.ranges id

abbrev pub all_covered : Swept → Bool
all_covered swept.Partial = false
all_covered (swept.Whole clean) = true

-- ranges with one more
abbrev pub HasMore : List (ℕ × ℕ) → List (ℕ × ℕ) → ℕ → ℕ → Type 0
HasMore old new first last = (id : ℕ) → covers new id ≡ (covers old id || in_range first last id)

-- what is kept of a moment tells rightly whether it covers all LSP IDs
pub record IsTold (s : Streak) : Type 0 where
  pub whole : s.whole ≡ true → (id : ℕ) → id < 2 ^ 64 → covers s.sweep.ranges id ≡ true
  pub partial : s.whole ≡ false
      → (id : ℕ) × (id < 2 ^ 64) × (covers s.sweep.ranges id ≡ false)

-- ranges in the order in which they were taken, as a list with the latest first
abbrev pub taken_after : List Taken → List Taking → List Taking
taken_after [] takings = takings
taken_after (t ∷ taken) takings =
    taken_after taken (taking_at t.key (lsp_number t.first) (lsp_number t.last) ∷ takings)

-- what is kept of each moment covers what the ranges do that were taken then
pub record IsKept (streaks : BTreeMap SweepKey Streak) (takings : List Taking) : Type 0 where
  pub covered : (key : SweepKey) (id : ℕ)
      → covers_in (tree.get order streaks key) id ≡ is_covered key takings id
  pub told : (key : SweepKey) → IfSome (tree.get order streaks key) IsTold
