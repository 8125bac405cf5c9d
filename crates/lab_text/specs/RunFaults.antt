-- What ends a run whose script is refused or has no memory (own).
use Rattle.lab_script.specs.declared.reason.ScriptFault.{ScriptFault}
use Rattle.lab_script.specs.declared.reason.ScriptFault.TheVariants as script
use Rattle.lab_text.specs.declared.fault.RunFault.{RunFault}
use Rattle.lab_text.specs.declared.fault.RunFault.TheVariants.{Refused, Limit, OutOfMemory}

abbrev pub run_fault_of : ScriptFault → RunFault
run_fault_of (script.Refused line reason) = Refused line reason
run_fault_of (script.Limit which) = Limit which
run_fault_of script.OutOfMemory = OutOfMemory
