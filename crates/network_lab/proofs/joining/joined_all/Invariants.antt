use Rattle.std.proofs.Common.{◌≡◌, ◌<◌, ◌++◌, false, length, map}
use Rattle.std.specs.List.{AllByRecursion}
use Rattle.network_lab.specs.LabNets.{new_circuit}
use Rattle.network_lab.specs.LabCauses as cause
use Rattle.network_lab.specs.Joining.{IsJoined}
use Rattle.network_lab.specs.declared.joining.Joined.{Joined}
use Rattle.network_lab.proofs.joining.joined_all.Given as goal

-- those so far were made ready, and those that are left have room
abbrev pub invariant-loop-left : goal.invariant-loop-left
invariant-loop-left g l = record {
  joined : AllByRecursion (IsJoined l.configs l.ports l.link (new_circuit l.kind l.metric)) l.list.items;
  routers : map (λ (j : Joined _). j.router) l.list.items ++ l.left ≡ l.members;
  there : AllByRecursion (λ i. i < length l.configs) l.left;
  room : cause.has_full l.configs l.left ≡ false;
}

abbrev pub decreases-loop-left : goal.decreases-loop-left
decreases-loop-left g l = length l.left
