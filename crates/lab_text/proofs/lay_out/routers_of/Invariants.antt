use Rattle.std.proofs.Common.{◌≡◌, ◌++◌, drop}
use Rattle.lab_script.specs.LabScripts.{end_routers}
use Rattle.lab_text.proofs.lay_out.routers_of.Given as goal

-- the routers so far, and those that are left
abbrev pub invariant-loop-end : goal.invariant-loop-end
invariant-loop-end l = l.routers.items ++ end_routers (drop l.end-index l.ends) ≡ end_routers l.ends
