use Rattle.std.proofs.Common.{◌≡◌, ◌++◌, drop}
use Rattle.lab_text.specs.LabRuns as run
use Rattle.lab_text.proofs.lab_run.dumps_of.Given as goal

-- those so far, and those that are left
abbrev pub invariant-loop-line : goal.invariant-loop-line
invariant-loop-line l = l.dumps.items ++ run.dumps_of (drop l.line-index l.lines) ≡ run.dumps_of l.lines
