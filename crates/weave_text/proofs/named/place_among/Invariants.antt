use Rattle.std.proofs.Common.{◌≡◌, drop}
use Rattle.lab_script.specs.LabScripts.{place_among}
use Rattle.weave_text.proofs.named.place_among.Given as goal

abbrev pub invariant-loop-end : goal.invariant-loop-end
invariant-loop-end l = place_among (drop l.end-index l.ends) l.router ≡ place_among l.ends l.router
