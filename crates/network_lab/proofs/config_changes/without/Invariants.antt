use Rattle.std.proofs.Common.{◌≡◌, ◌++◌, drop}
use Rattle.network_lab.specs.LabConfigs.{prefixes_without}
use Rattle.network_lab.proofs.config_changes.without.Given as goal

-- what is kept, and what is left
abbrev pub invariant-loop-own : goal.invariant-loop-own
invariant-loop-own l = l.kept ++ prefixes_without l.prefix (drop l.own-index l.prefixes) ≡ prefixes_without l.prefix l.prefixes
