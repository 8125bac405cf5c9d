use Rattle.std.proofs.Common.{map, take}
use Rattle.weave.specs.Coded.{AreAdded}
use Rattle.weave_replay.specs.Entries.{entry_of}
use Rattle.weave.proofs.coding.add_entries.Given as goal

abbrev pub invariant-loop-place : goal.invariant-loop-place
invariant-loop-place l = AreAdded l.book l.ports (take l.place (map entry_of l.entries)) l.fn.moves.items l.moves.items
