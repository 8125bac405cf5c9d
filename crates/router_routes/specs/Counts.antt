-- How many changes costs have had, once they are others (own).
use Rattle.std.specs.Prelude.{◌≡◌, ◌+◌, ◌-◌, ◌^◌, min}
use Rattle.spf_tree.specs.declared.row.Row.{Row}
use Rattle.spf_tree.specs.Graphs.{times}
use Rattle.spf_repair.specs.Changes.{RepairedOf}

-- the count of changes rises by one exactly where some row is there another number of times; it stays
-- at its last value
pub record Counts (old new : RepairedOf) : Type 0 where
  pub same : ((row : Row) → times new.graph.rows row ≡ times old.graph.rows row)
      → new.changes ≡ old.changes
  pub changed : (row : Row) → (times new.graph.rows row ≡ times old.graph.rows row → ⊥)
      → new.changes ≡ min (old.changes + 1) (2 ^ 64 - 1)
