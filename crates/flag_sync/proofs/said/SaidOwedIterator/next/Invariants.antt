use Rattle.std.proofs.Common.{◌≡◌, length}
use Rattle.flag_sync.specs.Said.{said_owed}
use Rattle.flag_sync.proofs.said.SaidOwedIterator.next.Given as goal

abbrev pub invariant-loop-id : goal.invariant-loop-id
invariant-loop-id l = record {
  rest : said_owed l.self-inside.place l.self-inside.entries l.self-inside.rows ≡ said_owed l.initial.self-inside.place l.initial.self-inside.entries l.initial.self-inside.rows;
  place : l.self-inside.place ≡ l.initial.self-inside.place;
}

abbrev pub decreases-loop-id : goal.decreases-loop-id
decreases-loop-id l = length l.self-inside.entries
