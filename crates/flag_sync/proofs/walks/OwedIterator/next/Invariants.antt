use Rattle.std.proofs.Common.{◌≡◌, length}
use Rattle.flag_sync.specs.Walks.{owed_of}
use Rattle.flag_sync.proofs.walks.OwedIterator.next.Given as goal

abbrev pub invariant-loop-id : goal.invariant-loop-id
invariant-loop-id l = record {
  rest : owed_of l.self-inside.place l.self-inside.rows ≡ owed_of l.initial.self-inside.place l.initial.self-inside.rows;
  place : l.self-inside.place ≡ l.initial.self-inside.place;
}

abbrev pub decreases-loop-id : goal.decreases-loop-id
decreases-loop-id l = length l.self-inside.rows
