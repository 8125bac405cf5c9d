use Rattle.std.proofs.Common.{◌≡◌, drop}
use Rattle.lab_script.specs.LabJudged.{is_some_full}
use Rattle.lab_script.proofs.lab_script.LabScript.is_some_full.Given as goal

abbrev pub invariant-loop-router : goal.invariant-loop-router
invariant-loop-router l = is_some_full l.self.links (drop l.router-index l.routers) ≡ is_some_full l.self.links l.routers
