use Rattle.std.proofs.Common.{◌≡◌, ◌≤◌, [], take}
use Rattle.daemon_edge.specs.Ports.{Adds}
use Rattle.circuit_serve.proofs.making.send.Given as goal

abbrev pub invariant-loop-place : goal.invariant-loop-place
invariant-loop-place g l =
    Adds (g.P.Port.given l.fn.port) (g.P.Port.given l.port) []
    × Adds (g.P.Port.offered l.fn.port) (g.P.Port.offered l.port) (take l.place l.fn.datagrams)
    × (g.P.Port.opening l.port ≡ g.P.Port.opening l.fn.port)
    × (g.P.Port.asked l.port ≡ g.P.Port.asked l.fn.port)
    × (g.P.Port.faults l.fn.port ≤ g.P.Port.faults l.port)
