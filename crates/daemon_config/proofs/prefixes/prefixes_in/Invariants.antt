use Rattle.std.proofs.Common.{◌≡◌, length, []}
use Rattle.toml.specs.Data.{as_table}
use Rattle.daemon_config.specs.Config.{prefixes_after}
use Rattle.daemon_config.specs.Seen.{parts_seen}
use Rattle.daemon_config.proofs.prefixes.prefixes_in.Given as goal

-- what the tables left add to the prefixes so far is what all tables give
abbrev pub invariant-loop-left : goal.invariant-loop-left
invariant-loop-left l =
    prefixes_after l.named (parts_seen as_table l.left) ≡ prefixes_after [] (parts_seen as_table l.items)

abbrev pub decreases-loop-left : goal.decreases-loop-left
decreases-loop-left l = length l.left
