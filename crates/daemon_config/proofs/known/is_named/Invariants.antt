use Rattle.std.proofs.Common.{◌≡◌, drop}
use Rattle.daemon_config.specs.Documents.{is_named}
use Rattle.daemon_config.proofs.known.is_named.Given as goal

-- the name is that of one of the keys left where it is that of one of them
abbrev pub invariant-loop-key : goal.invariant-loop-key
invariant-loop-key l = is_named (drop l.key-index l.keys) l.name ≡ is_named l.keys l.name
