use Rattle.std.proofs.Common.{◌≡◌, ◌++◌, drop}
use Rattle.network_lab.specs.LinkStates.{runs_of}
use Rattle.network_lab.proofs.network.Network.running_routers.Given as goal

-- those so far, and those that are left
abbrev pub invariant-loop-router : goal.invariant-loop-router
invariant-loop-router g l =
    l.runs.items ++ runs_of (drop l.router l.self.seen.routers) l.level ≡ runs_of l.self.seen.routers l.level
