use Rattle.std.proofs.Common.{take}
use Rattle.lab_grid.specs.GridRuns.{AreTallied}
use Rattle.lab_grid.proofs.run.tally_of.Given as goal

-- the routes of the routers so far are counted
abbrev pub invariant-loop-router : goal.invariant-loop-router
invariant-loop-router l = AreTallied (take l.router l.net.seen.routers) l.tally
