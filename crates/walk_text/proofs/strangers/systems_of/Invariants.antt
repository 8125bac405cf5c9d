use Rattle.std.proofs.Common.{◌≡◌, map, take}
use Rattle.walk_text.specs.Foreign.{node_of}
use Rattle.walk_text.proofs.strangers.systems_of.Given as goal

-- those of the routers so far
abbrev pub invariant-loop-place : goal.invariant-loop-place
invariant-loop-place l = l.known.items ≡ map node_of (take l.place l.network.seen.routers)
