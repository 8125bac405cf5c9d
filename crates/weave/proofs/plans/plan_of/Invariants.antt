use Rattle.std.proofs.Common.{◌≡◌, map, take}
use Rattle.weave_model.specs.Weavings.{track_of}
use Rattle.weave_replay.specs.Replays.{journals_of}
use Rattle.weave.specs.Coded.{has_some}
use Rattle.weave.specs.Moves.{move_of}
use Rattle.weave.proofs.plans.plan_of.Given as goal

-- the steps so far are the track of the router's journals so far
abbrev pub invariant-loop-place : goal.invariant-loop-place
invariant-loop-place l = record {
  begun : l.begun ≡ has_some (journals_of l.router (take l.place l.journals));
  steps : map move_of l.steps.items ≡ track_of (journals_of l.router (take l.place l.journals));
}
