use Rattle.std.proofs.Common.{◌≡◌, ◌-◌, length, slice_get}
use Rattle.daemon_edge.specs.MemoryPorts.{kept_of}
use Rattle.daemon_edge.proofs.memory_ports.MemoryPorts.offered.Given as goal

abbrev pub invariant-loop-rest : goal.invariant-loop-rest
invariant-loop-rest l = slice_get (kept_of l.circuit l.self.closed.items) (l.number - 1) ≡ slice_get (kept_of l.circuit l.rest) l.left

abbrev pub decreases-loop-rest : goal.decreases-loop-rest
decreases-loop-rest l = length l.rest
