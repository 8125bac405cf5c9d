use Rattle.std.proofs.Common.{take}
use Rattle.trace_text.specs.Forwarders.{AreForwarders}
use Rattle.trace_text.proofs.forwarders.forwarders_of.Given as goal

-- those of the routers so far
abbrev pub invariant-loop-place : goal.invariant-loop-place
invariant-loop-place l = AreForwarders (take l.place l.network.seen.routers) l.forwarders.items
