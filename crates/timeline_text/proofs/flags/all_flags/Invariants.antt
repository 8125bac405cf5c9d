use Rattle.std.proofs.Common.{◌≡◌, ◌*◌, ◌≤◌, take}
use Rattle.std.specs.List.{sum_by}
use Rattle.timeline_text.specs.Agreements.{router_flags}
use Rattle.timeline_text.proofs.flags.all_flags.Given as goal

-- those of the routers so far
abbrev pub invariant-loop-router : goal.invariant-loop-router
invariant-loop-router l = record {
  flags : l.flags ≡ sum_by (router_flags l.level) (take l.router l.network.seen.routers);
  few : l.flags ≤ l.router * 4194304;
}
