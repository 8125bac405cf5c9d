-- What is printed of faults of runs (own).
use Rattle.std.specs.Prelude.{ℕ, List, codes}
use Rattle.lab_script.specs.FaultTexts.{refused_text, limit_text}
use Rattle.lab_text.specs.declared.fault.RunFault.{RunFault}
use Rattle.lab_text.specs.declared.fault.RunFault.TheVariants as run

-- why a run didn't come to the end of its report, in words
abbrev pub run_fault_text : RunFault → List ℕ
run_fault_text (run.Refused line reason) = refused_text line reason
run_fault_text (run.Limit which) = limit_text which
run_fault_text run.Write = codes "write fault"
run_fault_text run.OutOfMemory = codes "out of memory"
