use Rattle.std.proofs.Common.{◌≡◌, map}
use Rattle.daemon_edge.specs.MemoryPorts.{held_in, slots_for}
use Rattle.daemon_edge.proofs.memory_ports.MemoryPorts.new.Given as goal

abbrev pub invariant-loop-list : goal.invariant-loop-list
invariant-loop-list l = map held_in l.slots.items ≡ slots_for l.failing.items l.room (map (λ list. list.items) l.yielded)
