use Rattle.std.proofs.Common.{◌≡◌, take}
use Rattle.weave.specs.Coded.{AreCoded, has_some}
use Rattle.weave_replay.specs.Replays.{journals_of}
use Rattle.weave.proofs.coding.code_router.Given as goal

-- the moves so far are the track of the router's journals so far
abbrev pub invariant-loop-place : goal.invariant-loop-place
invariant-loop-place l = record {
  begun : l.begun ≡ has_some (journals_of l.router (take l.place l.journals));
  coded : AreCoded l.book l.ports l.router (journals_of l.router (take l.place l.journals)) l.moves.items;
}
