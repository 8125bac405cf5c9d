use Rattle.std.proofs.Common.{◌≡◌, ◌++◌, [], map, take}
use Rattle.weave_model.specs.Weavings.{entries_before}
use Rattle.weave_replay.specs.Entries.{entry_of}
use Rattle.weave.specs.Moves.{move_of}
use Rattle.weave.proofs.plans.add_entries.Given as goal

abbrev pub invariant-loop-place : goal.invariant-loop-place
invariant-loop-place l = map move_of l.steps.items ≡ map move_of l.fn.steps.items ++ entries_before (take l.place (map entry_of l.entries)) []
