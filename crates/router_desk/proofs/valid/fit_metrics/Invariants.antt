use Rattle.std.proofs.Common.{◌≡◌, drop}
use Rattle.router_desk.specs.Limits.{fit_metrics}
use Rattle.router_desk.proofs.valid.fit_metrics.Given as goal

-- what is left fits where the whole does
abbrev pub invariant-loop-own : goal.invariant-loop-own
invariant-loop-own l = fit_metrics (drop l.own-index l.prefixes) ≡ fit_metrics l.prefixes
