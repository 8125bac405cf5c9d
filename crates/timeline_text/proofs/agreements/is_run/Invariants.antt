use Rattle.std.proofs.Common.{◌≡◌, drop}
use Rattle.timeline_text.proofs.FlagLemmas.{any_runs}
use Rattle.timeline_text.proofs.agreements.is_run.Given as goal

-- none of those so far does
abbrev pub invariant-loop-router : goal.invariant-loop-router
invariant-loop-router l = any_runs l.network.seen.routers l.level ≡ any_runs (drop l.router l.network.seen.routers) l.level
