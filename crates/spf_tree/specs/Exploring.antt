-- What is explored over tight rows, those of which least walks are made, on the way to next hops. All of it own.

use Rattle.std.specs.Prelude.{◌≡◌, ◌≢◌, ℕ, ◌+◌, ◌≤◌, ◌<◌, ◌==◌, ◌||◌, Bool, true, false, not, if◌then◌else◌, List, [], ◌∷◌, ◌++◌, ◌⊎◌, length, Option, Some, is_some, slice_index_or}
use Rattle.std.specs.List.{All, Contains, count_by}
use Rattle.std.specs.List.Sorted.{IsStrictlyIncreasing, IsStrictlySortedBy}
use Rattle.spf_tree.specs.declared.row.Row.{Row}
use Rattle.spf_tree.specs.declared.label.Label.{Label}
use Rattle.spf_tree.specs.Nodes.{is_system}
use Rattle.spf_tree.specs.Labels.{at, names}
use Rattle.spf_tree.specs.Walks.{start, end, IsWalk, cost}
use Rattle.spf_tree.specs.NextHops.{first_system}
use Rattle.spf_tree.specs.Pairs.{pair_cmp}

-- the first system after the root on a walk to the target whose cost is the target's label
abbrev pub IsHopByLabels : List Row → ℕ → List Label → ℕ → ℕ → Type 0
IsHopByLabels rows root labels target hop =
    (walk : List Row) × IsWalk rows root walk target × (at labels target ≡ Some (cost walk))
    × (first_system walk ≡ Some hop)

-- the row leads from one label to the next
abbrev pub IsTight : List Label → Row → Type 0
IsTight labels row =
    (c : ℕ) × (at labels (start row) ≡ Some c) × (at labels (end row) ≡ Some (c + row.metric))

-- which nodes are gone on from: all, or the root and pseudonodes alone
abbrev pub goes_on : Bool → ℕ → ℕ → Bool
goes_on all root node = all || (node == root || not (is_system node))

-- tight rows from a node to another, the last first, over nodes that are gone on from
abbrev pub Leads : List Row → ℕ → List Label → Bool → ℕ → List Row → ℕ → Type 0
Leads rows root labels all from [] node = node ≡ from
Leads rows root labels all from (row ∷ walk) node =
    Contains rows row × (end row ≡ node) × (node ≢ root) × IsTight labels row
    × (goes_on all root (start row) ≡ true) × Leads rows root labels all from walk (start row)

-- the nodes that tight rows lead to, each once or more
pub record AreReached (rows : List Row) (root : ℕ) (labels : List Label) (all : Bool) (from : ℕ)
    (nodes : List ℕ) : Type 0 where
  pub walk : (node : ℕ) → Contains nodes node → (walk : List Row)
      × Leads rows root labels all from walk node
  pub every : (walk : List Row) (node : ℕ) → Leads rows root labels all from walk node
      → Contains nodes node

-- the metric is the difference of two costs
abbrev pub LeadsBy : Option ℕ → Option ℕ → ℕ → Type 0
LeadsBy first second metric = (c : ℕ) × (first ≡ Some c) × (second ≡ Some (c + metric))

-- the metric leads from the node's label to the other's
abbrev pub IsStep : List Label → ℕ → ℕ → ℕ → Type 0
IsStep labels node to metric = LeadsBy (at labels node) (at labels to) metric

-- the other node is added and marked, or need not be
abbrev pub IsTouched : List Label → ℕ → ℕ → ℕ → ℕ → List Label → List ℕ → List Label → List ℕ
    → Type 0
IsTouched labels root node to metric marks nodes later more =
    ((later ≡ marks) × (more ≡ nodes)
    × ((to ≡ root) ⊎ ((IsStep labels node to metric → ⊥) ⊎ (is_some (at marks to) ≡ true))))
    ⊎ ((to ≢ root) × IsStep labels node to metric × (is_some (at marks to) ≡ false)
    × (more ≡ nodes ++ to ∷ [])
    × ((q : ℕ) → at later q ≡ (if q == to then Some 0 else at marks q)))

-- how many nodes have no mark
abbrev pub unmarked : List Label → ℕ
unmarked marks = count_by (λ (n : ℕ). not (is_some (at marks n))) (names marks)

-- an exploration on its way: the first so many nodes have been gone on from
pub record IsExploring (rows : List Row) (root : ℕ) (labels : List Label) (all : Bool) (from : ℕ)
    (marks : List Label) (nodes : List ℕ) (many : ℕ) : Type 0 where
  pub first : Contains nodes from
  pub within : many ≤ length nodes
  pub walk : (node : ℕ) → Contains nodes node → (walk : List Row)
      × Leads rows root labels all from walk node
  pub marked : (node : ℕ) → is_some (at marks node) ≡ true → Contains nodes node
  pub unmarked : (node : ℕ) → Contains nodes node → is_some (at marks node) ≡ true
  pub closed : (k d : ℕ) (row : Row) → k < many → Contains rows row
      → start row ≡ slice_index_or nodes k d → goes_on all root (start row) ≡ true → end row ≢ root
      → IsTight labels row → is_some (at marks (end row)) ≡ true

-- the first so many rows have been looked at from the node
pub record IsSpreading (rows : List Row) (root : ℕ) (labels : List Label) (all : Bool)
    (from node : ℕ) (marks : List Label) (nodes : List ℕ) (many place : ℕ) : Type 0 where
  pub so_far : IsExploring rows root labels all from marks nodes many
  pub at_node : Contains nodes node
  pub here : (k : ℕ) (d : Row) → k < place → start (slice_index_or rows k d) ≡ node
      → end (slice_index_or rows k d) ≢ root → IsTight labels (slice_index_or rows k d)
      → is_some (at marks (end (slice_index_or rows k d))) ≡ true

-- the nodes so far stand at the beginning of those now
pub record IsFront (nodes more : List ℕ) : Type 0 where
  pub longer : length nodes ≤ length more
  pub same : (k d : ℕ) → k < length nodes → slice_index_or more k d ≡ slice_index_or nodes k d

-- a system other than the root from which tight rows lead to the target
abbrev pub LeadsOn : List Row → ℕ → List Label → ℕ → ℕ → Type 0
LeadsOn rows root labels target hop =
    (hop ≢ root) × (is_system hop ≡ true)
    × ((walk : List Row) × Leads rows root labels true hop walk target)

-- the node is added where tight rows lead on from it
abbrev pub IsChosen : List Row → ℕ → List Label → ℕ → ℕ → List ℕ → List ℕ → Type 0
IsChosen rows root labels target hop hops more =
    (LeadsOn rows root labels target hop × (more ≡ hops ++ hop ∷ []))
    ⊎ ((LeadsOn rows root labels target hop → ⊥) × (more ≡ hops))

-- the nodes of the list from which tight rows lead on
pub record AreChosen (rows : List Row) (root : ℕ) (labels : List Label) (target : ℕ)
    (nodes hops : List ℕ) : Type 0 where
  pub from : (hop : ℕ) → Contains hops hop → Contains nodes hop
      × LeadsOn rows root labels target hop
  pub all : (hop : ℕ) → Contains nodes hop → LeadsOn rows root labels target hop → Contains hops hop

-- a node beside a hop
abbrev pub beside : ℕ → ℕ → ℕ × ℕ
beside hop node = (node, hop)

-- the table has the pairs of one hop more
pub record IsTabled (rows : List Row) (root : ℕ) (labels : List Label) (hop : ℕ)
    (old new : List (ℕ × ℕ)) : Type 0 where
  pub from : (target h : ℕ) → Contains new (target, h)
      → Contains old (target, h) ⊎ ((h ≡ hop) × LeadsOn rows root labels target hop)
  pub kept : (target h : ℕ) → Contains old (target, h) → Contains new (target, h)
  pub more : (target : ℕ) → LeadsOn rows root labels target hop → Contains new (target, hop)

-- the table has the pairs of the hops in a list
pub record AreTabled (rows : List Row) (root : ℕ) (labels : List Label) (nodes : List ℕ)
    (table : List (ℕ × ℕ)) : Type 0 where
  pub from : (target hop : ℕ) → Contains table (target, hop)
      → Contains nodes hop × LeadsOn rows root labels target hop
  pub all : (target hop : ℕ) → Contains nodes hop → LeadsOn rows root labels target hop
      → Contains table (target, hop)

-- a table of targets beside hops: in order, each pair once, and each hop a system
pub record IsTable (table : List (ℕ × ℕ)) : Type 0 where
  pub rising : IsStrictlySortedBy pair_cmp table
  pub systems : All (λ (pair : ℕ × ℕ). is_system pair.1 ≡ true) table

-- the hops beside the target among the first so many pairs
pub record AreHopsOf (table : List (ℕ × ℕ)) (target : ℕ) (hops : List ℕ) (many : ℕ) : Type 0 where
  pub from : (hop : ℕ) → Contains hops hop → Contains table (target, hop)
  pub all : (k : ℕ) (d : ℕ × ℕ) → k < many → (slice_index_or table k d).0 ≡ target
      → Contains hops (slice_index_or table k d).1
  pub rising : IsStrictlyIncreasing hops
  pub below : (hop k : ℕ) (d : ℕ × ℕ) → Contains hops hop → many ≤ k → k < length table
      → (slice_index_or table k d).0 ≡ target → hop < (slice_index_or table k d).1
