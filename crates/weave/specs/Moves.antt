-- The steps of a router's plan as moves (own).
use Rattle.weave_model.specs.Weavings.{Move, Does, Restarts}
use Rattle.weave_replay.specs.Entries.{entry_of}
use Rattle.weave.specs.declared.step.Step.{Step}
use Rattle.weave.specs.declared.step.Step.TheVariants as step

abbrev pub move_of : Step → Move
move_of (step.Entry entry) = Does (entry_of entry.now)
move_of step.Restart = Restarts
