use Rattle.std.proofs.Common.{◌≡◌}
use Rattle.toml.specs.View.{members_view}
use Rattle.daemon_config.specs.Documents.{has_only}
use Rattle.daemon_config.proofs.known.has_only.Given as goal

-- the names left are known where all are
abbrev pub invariant-loop-name : goal.invariant-loop-name
invariant-loop-name l =
    (goal.iterator-loop-name).can_next l.name-iterator
    × (goal.iterator-loop-name).is_finite l.name-iterator
    × (has_only l.keys (members_view l.name-iterator) ≡ has_only l.keys (members_view l.table.entries))
