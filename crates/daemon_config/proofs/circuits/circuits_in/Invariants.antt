use Rattle.std.proofs.Common.{◌≡◌, length}
use Rattle.toml.specs.Data.{as_table}
use Rattle.daemon_config.specs.Config.{circuits_from}
use Rattle.daemon_config.specs.Seen.{parts_seen}
use Rattle.daemon_config.proofs.EachLemmas.{circuits_behind}
use Rattle.daemon_config.proofs.circuits.circuits_in.Given as goal

-- those so far, and those of the tables left, are those of all tables
abbrev pub invariant-loop-left : goal.invariant-loop-left
invariant-loop-left l =
    circuits_behind l.circuits l.places (circuits_from (parts_seen as_table l.left))
    ≡ circuits_from (parts_seen as_table l.items)

abbrev pub decreases-loop-left : goal.decreases-loop-left
decreases-loop-left l = length l.left
