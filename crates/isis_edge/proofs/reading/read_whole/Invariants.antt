use Rattle.std.proofs.Common.{◌+◌, ◌-◌, ◌<◌, ◌≤◌, length}
use Rattle.isis_edge.specs.Told.{Took}
use Rattle.isis_edge.proofs.reading.read_whole.Given as goal

abbrev pub invariant-reads : goal.invariant-reads
invariant-reads g l = record {
  taken : Took (g.I.Source.gave l.fn.source) (g.I.Source.gave l.source) l.octets;
  within : length l.octets ≤ l.limit;
  room : 0 < length l.buffer;
  later : g.I.Source.faults l.fn.source ≤ g.I.Source.faults l.source;
}

abbrev pub decreases-reads : goal.decreases-reads
decreases-reads g l = l.limit + 1 - length l.octets
