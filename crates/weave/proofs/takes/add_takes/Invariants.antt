use Rattle.std.proofs.Common.{map, take}
use Rattle.weave.specs.Coded.{AreLettered, AreKept}
use Rattle.weave_replay.specs.Entries.{entry_of}
use Rattle.weave.proofs.takes.add_takes.Given as goal

abbrev pub invariant-loop-place : goal.invariant-loop-place
invariant-loop-place l = record {
  kept : AreKept l.fn.book l.book;
  lettered : AreLettered l.book l.ports (take l.place (map entry_of l.entries));
}
