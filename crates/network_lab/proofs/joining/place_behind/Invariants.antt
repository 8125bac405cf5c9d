use Rattle.std.proofs.Common.{◌≡◌, ◌++◌, drop, take}
use Rattle.model_network.specs.declared.end.End.{End}
use Rattle.model_network.specs.RunLines as line
use Rattle.network_lab.proofs.joining.place_behind.Given as goal

-- those so far are of no greater router
abbrev pub invariant-loop-place : goal.invariant-loop-place
invariant-loop-place l = (e : End) → e.router ≡ l.router
    → line.put_end l.ends e ≡ take l.place l.ends ++ line.put_end (drop l.place l.ends) e
