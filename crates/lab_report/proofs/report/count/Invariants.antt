use Rattle.std.proofs.Common.{◌≡◌, ◌≤◌, ◌+◌, drop}
use Rattle.network_lab.specs.LinkStates.{runs_of}
use Rattle.lab_report.specs.Reports.{count_on}
use Rattle.lab_report.proofs.report.count.Given as goal

-- those so far, and those that are left
abbrev pub invariant-loop-router : goal.invariant-loop-router
invariant-loop-router l = record {
  all : l.count + count_on (runs_of (drop l.router l.net.seen.routers) l.level) ≡ count_on (runs_of l.net.seen.routers l.level);
  few : l.count ≤ l.router;
}
