use Rattle.std.proofs.Common.{◌≡◌}
use Rattle.lab_text.specs.KeysRuns.{routers_only}
use Rattle.lab_text.proofs.run.add_routers.Given as goal

-- so many routers so far
abbrev pub invariant-loop-router : goal.invariant-loop-router
invariant-loop-router l = l.net ≡ routers_only l.router
