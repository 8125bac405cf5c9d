-- Costs repaired on their way: labels, offers, and the nodes that were settled. All of it own.

use Rattle.std.specs.Prelude.{◌≡◌, ◌≢◌, ℕ, ◌+◌, ◌*◌, ◌≤◌, ◌<◌, ◌^◌, ◌==◌, nat_eq, List, [], length, Option, Some, None, if◌then◌else◌}
use Rattle.std.specs.List.{Contains, sum_by, IsDistinct}
use Rattle.spf_tree.specs.declared.row.Row.{Row}
use Rattle.spf_tree.specs.declared.label.Label.{Label}
use Rattle.spf_repair.specs.declared.outcome.Outcome.{Outcome}
use Rattle.spf_repair.specs.declared.outcome.Outcome.TheVariants.{End, Skipped, Settled}
use Rattle.spf_tree.specs.Walks.{start, end, IsWalk, cost, IsWithin}
use Rattle.spf_tree.specs.Labels.{at}
use Rattle.spf_tree.specs.Search.{AreUpper}
use Rattle.spf_tree.specs.Labels.{names}
use Rattle.spf_tree.specs.Search.{IsCovered}

-- labels and offers, each with a walk of no greater cost, that cover what each row gives
pub record IsLoose (rows : List Row) (root : ℕ) (labels : List Label)
    (queue : List (ℕ × ℕ)) : Type 0 where
  pub upper : AreUpper rows root labels
  pub offered : (offer : ℕ × ℕ) → Contains queue offer
      → (walk : List Row) × IsWalk rows root walk offer.1 × (cost walk ≤ offer.0)
  pub relaxed : (row : Row) (c : ℕ) → Contains rows row → end row ≢ root
      → at labels (start row) ≡ Some c → c + row.metric < 2 ^ 64
      → IsCovered labels queue (end row) (c + row.metric)
  pub zero : IsCovered labels queue root 0
  pub named : (offer : ℕ × ℕ) → Contains queue offer → Contains (names labels) offer.1

-- the least offer was better than its node's label, which it became
pub record IsSettled (rows : List Row) (old new : List Label) (queue later : List (ℕ × ℕ))
    (c node : ℕ) : Type 0 where
  pub fits : c < 2 ^ 64
  pub better : IsWithin (at old node) c → ⊥
  pub labelled : (q : ℕ) → at new q ≡ (if q == node then Some c else at old q)
  pub popped : Contains queue (c, node)
  pub least : (offer : ℕ × ℕ) → Contains queue offer → c ≤ offer.0
  pub after : (offer : ℕ × ℕ) → Contains later offer → c ≤ offer.0
  pub few : length later ≤ length queue + length rows

-- what was done with the least offer
abbrev pub IsOutcome : Outcome → List Row → List Label → List Label → List (ℕ × ℕ) → List (ℕ × ℕ)
    → Type 0
IsOutcome End rows old new queue later = (new ≡ old) × (later ≡ [])
IsOutcome Skipped rows old new queue later =
    (new ≡ old) × (length later + 1 ≡ length queue)
    × ((offer : ℕ × ℕ) → Contains later offer → Contains queue offer)
IsOutcome (Settled c node) rows old new queue later = IsSettled rows old new queue later c node

-- the sum of the labels, a node without one counting 2 ^ 64
abbrev pub value : Option ℕ → ℕ
value None = 2 ^ 64
value (Some c) = c

abbrev pub potential : List Label → ℕ
potential labels = sum_by (λ (node : ℕ). value (at labels node)) (names labels)

-- what may still be done
abbrev pub effort : List Row → List Label → List (ℕ × ℕ) → ℕ
effort rows labels queue = (length rows + 1) * potential labels + length queue

-- each step since the start settled another node, whose label it changed for good
pub record IsCounted (begin labels : List Label) (queue : List (ℕ × ℕ))
    (before now : ℕ) : Type 0 where
  pub settled : List ℕ
  pub many : now ≡ before + length settled
  pub distinct : IsDistinct nat_eq settled
  pub once : (node c : ℕ) (offer : ℕ × ℕ) → Contains settled node → at labels node ≡ Some c
      → Contains queue offer → c ≤ offer.0
  pub changed : (node : ℕ) → Contains settled node
      → (c : ℕ) × (at labels node ≡ Some c) × (IsWithin (at begin node) c → ⊥)
  pub untouched : (node : ℕ) → (Contains settled node → ⊥) → at labels node ≡ at begin node
