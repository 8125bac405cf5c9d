use Rattle.std.proofs.Common.{arith}
use Rattle.std.proofs.Math.Logic.{∥∥₁_map}
use Rattle.circuit_threads.specs.Told.{told_of}
use Rattle.circuit_threads.proofs.HistoryLemmas.{rose-more}
use Rattle.circuit_threads.proofs.behind.Behind.take_room.Goals as goal

pub invariant_of-self : goal.invariant_of-self
invariant_of-self g c = let s = c.args.self.now in let room = c.room.ensures in record {
  history = s.history;
  counted = s.counted;
  stopped = s.stopped;
  mark = s.mark;
  told = ∥∥₁_map s.told (λ t. room.tells s.notes.beginning.journal.value (told_of s.notes.items) t);
  later = omega (arith, s.later, room.later);
  fault = λ n e. rose-more _ _ _ (s.fault n e) room.later;
  desk = s.desk;
}
