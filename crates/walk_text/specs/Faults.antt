-- What ends a walk whose script isn't played to its end (own).
use Rattle.lab_text.specs.declared.fault.RunFault.{RunFault}
use Rattle.lab_text.specs.declared.fault.RunFault.TheVariants as run
use Rattle.walk_text.specs.declared.fault.WalkFault.{WalkFault}
use Rattle.walk_text.specs.declared.fault.WalkFault.TheVariants.{Refused, Limit, Write, OutOfMemory}

abbrev pub walk_fault_of : RunFault → WalkFault
walk_fault_of (run.Refused line reason) = Refused line reason
walk_fault_of (run.Limit which) = Limit which
walk_fault_of run.Write = Write
walk_fault_of run.OutOfMemory = OutOfMemory
