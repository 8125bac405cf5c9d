use Rattle.std.proofs.Common.{◌≡◌, ◌++◌, drop}
use Rattle.lab_script.specs.LabScripts.{next_ends}
use Rattle.lab_script.proofs.lab_links.LabLinks.next_ends.Given as goal

-- the ends so far, and those that are left
abbrev pub invariant-loop-router : goal.invariant-loop-router
invariant-loop-router l = l.ends ++ next_ends l.self (drop l.router-index l.routers) ≡ next_ends l.self l.routers
