use Rattle.std.proofs.Common.{◌≡◌, length, map}
use Rattle.std.specs.Prelude.{is_some}
use Rattle.std.specs.List.{list_all}
use Rattle.toml.specs.Data.{as_table}
use Rattle.toml.specs.View.{view}
use Rattle.daemon_config.proofs.lists.are_tables.Given as goal

-- the items that are left are all such where all items are
abbrev pub invariant-loop-left : goal.invariant-loop-left
invariant-loop-left l = list_all (λ d. is_some (as_table d)) (map view l.left) ≡ list_all (λ d. is_some (as_table d)) (map view l.items)

abbrev pub decreases-loop-left : goal.decreases-loop-left
decreases-loop-left l = length l.left
