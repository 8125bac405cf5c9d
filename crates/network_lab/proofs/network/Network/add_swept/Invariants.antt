use Rattle.std.proofs.Common.{◌≡◌, ◌++◌, IfSome, drop}
use Rattle.std.specs.List.{flat_map}
use Rattle.model_router.specs.Places.{nth}
use Rattle.network_lab.specs.LinkStates.{swept_pair}
use Rattle.network_lab.proofs.network.Network.add_swept.Given as goal

-- those so far, and those that are left
abbrev pub invariant-loop-place : goal.invariant-loop-place
invariant-loop-place g l = IfSome (nth l.self.seen.links l.link) (λ ends.
    l.pairs.items ++ flat_map (swept_pair l.self.seen l.link l.level) (drop l.place ends)
    ≡ l.initial.pairs.items ++ flat_map (swept_pair l.self.seen l.link l.level) ends)
