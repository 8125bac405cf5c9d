use Rattle.std.proofs.Common.{take}
use Rattle.std.specs.List.{flat_map}
use Rattle.walk_text.specs.Foreign.{systems_told, IsLeastForeign}
use Rattle.walk_text.proofs.strangers.least_stranger.Given as goal

-- the least of those that the routers so far are told
abbrev pub invariant-loop-place : goal.invariant-loop-place
invariant-loop-place l = IsLeastForeign l.known.items (flat_map systems_told (take l.place l.network.seen.routers)) l.least
