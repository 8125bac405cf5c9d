use Rattle.std.proofs.Common.{◌≡◌, length, map}
use Rattle.std.specs.List.{list_all}
use Rattle.toml.specs.View.{view}
use Rattle.daemon_config.specs.Documents.{has_only, tables_in}
use Rattle.daemon_config.proofs.known.all_have_only.Given as goal

-- the tables left have no other keys where no tables have
abbrev pub invariant-loop-left : goal.invariant-loop-left
invariant-loop-left l =
    list_all (has_only l.keys) (tables_in (map view l.left)) ≡ list_all (has_only l.keys) (tables_in (map view l.items))

abbrev pub decreases-loop-left : goal.decreases-loop-left
decreases-loop-left l = length l.left
