-- A search for least costs on its way: labels, and offers that wait. All of it own.

use Rattle.std.specs.Prelude.{◌≡◌, ◌≢◌, ℕ, ◌+◌, ◌≤◌, ◌<◌, ◌^◌, ◌⊎◌, ◌==◌, Bool, not, List, ◌∷◌, length, take, Some, is_some, slice_index_or}
use Rattle.std.specs.List.{Contains, count_by}
use Rattle.std.specs.List.Sorted.{IsPermutation, IsNonDecreasingBy, IsStrictlyIncreasing}
use Rattle.spf_tree.specs.declared.row.Row.{Row}
use Rattle.spf_tree.specs.declared.label.Label.{Label}
use Rattle.spf_tree.specs.Labels.{at, names}
use Rattle.spf_tree.specs.Walks.{start, end, IsWalk, cost, IsWithin}

-- fewer rows than 2 ^ 32, and each metric below 2 ^ 32
pub record IsBounded (rows : List Row) : Type 0 where
  pub few : length rows < 2 ^ 32
  pub small : (row : Row) → Contains rows row → row.metric < 2 ^ 32

-- rows and nodes as a graph keeps them: both in order, and each row ends at one of the nodes
pub record IsSearchKept (rows : List Row) (nodes : List ℕ) : Type 0 where
  pub sorted : IsNonDecreasingBy start rows
  pub bounded : IsBounded rows
  pub rising : IsStrictlyIncreasing nodes
  pub ends : (row : Row) → Contains rows row → Contains nodes (end row)

-- from each labelled node, each row that doesn't end at the root gives its end no less than its label, as far as sums
-- fit 64 bits
pub record IsRelaxed (rows : List Row) (root : ℕ) (labels : List Label) : Type 0 where
  pub row : (row : Row) (c : ℕ) → Contains rows row → end row ≢ root
      → at labels (start row) ≡ Some c → c + row.metric < 2 ^ 64
      → IsWithin (at labels (end row)) (c + row.metric)

-- each labelled node has a walk of no greater cost
pub record AreUpper (rows : List Row) (root : ℕ) (labels : List Label) : Type 0 where
  pub walk : (node c : ℕ) → at labels node ≡ Some c
      → (walk : List Row) × IsWalk rows root walk node × (cost walk ≤ c)

-- a label or an offer gives the node no more than this
abbrev pub IsCovered : List Label → List (ℕ × ℕ) → ℕ → ℕ → Type 0
IsCovered labels queue node most =
    IsWithin (at labels node) most
    ⊎ ((offer : ℕ × ℕ) × Contains queue offer × (offer.1 ≡ node) × (offer.0 ≤ most))

-- nothing is to be offered: the root, no sum in 64 bits, or a label that is no greater
abbrev pub IsNoNews : List Label → ℕ → ℕ → ℕ → Type 0
IsNoNews labels root node sum = (node ≡ root) ⊎ ((2 ^ 64 ≤ sum) ⊎ IsWithin (at labels node) sum)

-- the sum is offered to the node, or need not be
abbrev pub IsOffered : List Label → ℕ → ℕ → ℕ → List (ℕ × ℕ) → List (ℕ × ℕ) → Type 0
IsOffered labels root node sum old new =
    ((new ≡ old) × IsNoNews labels root node sum)
    ⊎ ((node ≢ root) × IsPermutation ((sum, node) ∷ old) new)

-- what a row from the node offers
abbrev pub IsFromRow : List Row → ℕ → ℕ → ℕ → ℕ × ℕ → Type 0
IsFromRow rows root node c offer =
    (row : Row) × Contains rows row × (start row ≡ node) × (end row ≢ root) × (end row ≡ offer.1)
    × (c + row.metric ≡ offer.0)

-- whether a row starts at the node
abbrev pub starts : ℕ → Row → Bool
starts node row = start row == node

-- the first so many rows have offered what they give from the node at this cost
pub record HaveOffered (rows : List Row) (root : ℕ) (labels : List Label) (node c : ℕ)
    (old new : List (ℕ × ℕ)) (many : ℕ) : Type 0 where
  pub kept : (offer : ℕ × ℕ) → Contains old offer → Contains new offer
  pub from : (offer : ℕ × ℕ) → Contains new offer
      → Contains old offer ⊎ IsFromRow rows root node c offer
  pub given : (k : ℕ) (d : Row) → k < many → start (slice_index_or rows k d) ≡ node
      → end (slice_index_or rows k d) ≢ root → c + (slice_index_or rows k d).metric < 2 ^ 64
      → IsCovered labels new (end (slice_index_or rows k d)) (c + (slice_index_or rows k d).metric)
  pub few : length new ≤ length old + count_by (starts node) (take many rows)

-- a search from the root, on its way
pub record IsSearch (rows : List Row) (root : ℕ) (labels : List Label)
    (queue : List (ℕ × ℕ)) : Type 0 where
  pub upper : AreUpper rows root labels
  pub offered : (offer : ℕ × ℕ) → Contains queue offer
      → (walk : List Row) × IsWalk rows root walk offer.1 × (cost walk ≤ offer.0)
  pub relaxed : (row : Row) (c : ℕ) → Contains rows row → end row ≢ root
      → at labels (start row) ≡ Some c → c + row.metric < 2 ^ 64
      → IsCovered labels queue (end row) (c + row.metric)
  pub zero : IsCovered labels queue root 0
  pub order : (node c : ℕ) (offer : ℕ × ℕ) → at labels node ≡ Some c → Contains queue offer
      → c ≤ offer.0
  pub named : (offer : ℕ × ℕ) → Contains queue offer → Contains (names labels) offer.1

-- each end of a row has a label, and so has the root
pub record AreNamed (rows : List Row) (root : ℕ) (nodes : List ℕ) : Type 0 where
  pub first : Contains nodes root
  pub ends : (row : Row) → Contains rows row → Contains nodes (end row)

-- whether the row's start has no label yet
abbrev pub is_open : List Label → Row → Bool
is_open labels row = not (is_some (at labels (start row)))

-- what a search may still do: offers that stand, and rows whose start has no label
abbrev pub work : List Row → List Label → List (ℕ × ℕ) → ℕ
work rows labels queue = length queue + count_by (is_open labels) rows
