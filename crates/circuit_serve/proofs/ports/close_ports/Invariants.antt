use Rattle.std.proofs.Common.{◌≡◌, ◌++◌, map, length}
use Rattle.daemon_edge.specs.Closings.{closing}
use Rattle.daemon_edge.specs.Ports.{Adds}
use Rattle.circuit_serve.proofs.ports.close_ports.Given as goal

abbrev pub invariant-loop-port : goal.invariant-loop-port
invariant-loop-port g l = record {
  circuit : l.circuit ≡ length l.yielded;
  count : g.P.Ports.opened l.ports ≡ g.P.Ports.opened l.fn.ports;
  closed : Adds (g.P.Ports.closed l.fn.ports) (g.P.Ports.closed l.ports) (map (λ p. closing (g.P.Port.Port.opening p) (g.P.Port.Port.given p) (g.P.Port.Port.offered p) (g.P.Port.Port.asked p)) l.yielded);
  faults : g.P.Ports.faults l.ports ≡ g.P.Ports.faults l.fn.ports;
  all : l.fn.opened.items ≡ l.yielded ++ l.port-iterator.rest.items;
}
