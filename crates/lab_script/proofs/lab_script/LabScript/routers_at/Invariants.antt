use Rattle.std.proofs.Common.{◌≡◌, ◌+◌, ◌<◌, ◌++◌, length, Ok}
use Rattle.std.specs.List.{AllByRecursion}
use Rattle.lab_script.specs.LabJudged.{◌then◌, routers_at}
use Rattle.lab_script.proofs.lab_script.LabScript.routers_at.Given as goal

-- the routers so far, and the names that are left
abbrev pub invariant-loop-name : goal.invariant-loop-name
invariant-loop-name l = record {
  found : (routers_at l.self l.left then λ more. Ok (l.routers ++ more)) ≡ routers_at l.self l.fn.names;
  there : AllByRecursion (λ router. router < length l.self.routers) l.routers;
  many : length l.routers + length l.left ≡ length l.fn.names;
}

abbrev pub decreases-loop-name : goal.decreases-loop-name
decreases-loop-name l = length l.left
