-- What ends a weaving that isn't written (own).
use Rattle.lab_script.specs.declared.reason.ScriptFault.{ScriptFault}
use Rattle.lab_script.specs.declared.reason.ScriptFault.TheVariants as script
use Rattle.lab_text.specs.declared.fault.RunFault.{RunFault}
use Rattle.lab_text.specs.declared.fault.RunFault.TheVariants as run
use Rattle.weave.specs.declared.fault.WeaveFault.{WeaveFault}
use Rattle.weave.specs.declared.fault.WeaveFault.TheVariants as weave
use Rattle.weave_text.specs.declared.fault.WeaveTextFault.{WeaveTextFault}
use Rattle.weave_text.specs.declared.fault.WeaveTextFault.TheVariants.{Refused, Limit, NotWoven, Write, OutOfMemory}
use Rattle.weave_text.specs.declared.reason.WeaveReason.TheVariants as reason

abbrev pub script_fault : ScriptFault → WeaveTextFault
script_fault (script.Refused line reason) = Refused line reason
script_fault (script.Limit which) = Limit which
script_fault script.OutOfMemory = OutOfMemory

abbrev pub run_fault : RunFault → WeaveTextFault
run_fault (run.Refused line reason) = Refused line reason
run_fault (run.Limit which) = Limit which
run_fault run.Write = Write
run_fault run.OutOfMemory = OutOfMemory

abbrev pub weave_fault : WeaveFault → WeaveTextFault
weave_fault (weave.Event journal entry) = NotWoven journal entry reason.Event
weave_fault (weave.Reply journal entry) = NotWoven journal entry reason.Reply
weave_fault (weave.Limit which) = Limit which
weave_fault (weave.Stuck journal entry) = NotWoven journal entry reason.Stuck
weave_fault weave.OutOfMemory = OutOfMemory

abbrev pub no_memory : WeaveTextFault
no_memory = OutOfMemory
