use Rattle.std.proofs.Common.{◌≡◌, ◌≤◌, [], ◌++◌, ℕ, map, length, vec_capacity, slice_get, IfSome}
use Rattle.daemon_edge.specs.Ports.{Adds, IsFresh}
use Rattle.circuit_serve.specs.Openings.{openings, counted}
use Rattle.circuit_serve.proofs.ports.open_ports.Given as goal

abbrev pub invariant-loop-place : goal.invariant-loop-place
invariant-loop-place g l = record {
  circuit : l.circuit ≡ length l.yielded;
  size : length l.list.items ≡ length l.yielded;
  room : length l.fn.places ≤ vec_capacity l.list;
  made : map g.P.Port.Port.opening l.list.items ≡ openings 1 l.yielded;
  fresh : (i : ℕ) → IfSome (slice_get l.list.items i) (λ p. IsFresh (g.P.Port.Port.given p) (g.P.Port.Port.offered p) (g.P.Port.Port.asked p));
  count : g.P.Ports.opened l.ports ≡ counted (length l.yielded) (g.P.Ports.opened l.fn.ports);
  closed : Adds (g.P.Ports.closed l.fn.ports) (g.P.Ports.closed l.ports) [];
  later : g.P.Ports.faults l.fn.ports ≤ g.P.Ports.faults l.ports;
  all : l.fn.places ≡ l.yielded ++ l.place-iterator.rest.items;
}
