use Rattle.std.proofs.Common.{◌≡◌, drop}
use Rattle.lab_losses.specs.Alike.{are_alike}
use Rattle.lab_losses.proofs.groups.are_alike.Given as goal

abbrev pub invariant-loop-place : goal.invariant-loop-place
invariant-loop-place l = are_alike (drop l.place l.a) (drop l.place l.b) ≡ are_alike l.a l.b
