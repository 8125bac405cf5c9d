use Rattle.std.proofs.Common.{◌≡◌, ◌++◌, drop}
use Rattle.network_lab.specs.LinkStates.{pairs_from}
use Rattle.network_lab.proofs.network.Network.pairs.Given as goal

-- those so far, and those that are left
abbrev pub invariant-loop-link : goal.invariant-loop-link
invariant-loop-link g l =
    l.pairs.items ++ pairs_from l.self.seen l.level l.link (drop l.link l.self.seen.links)
    ≡ pairs_from l.self.seen l.level 0 l.self.seen.links
