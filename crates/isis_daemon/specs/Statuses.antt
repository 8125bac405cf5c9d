-- What ends a run, its exit code and its line (own).
use Rattle.std.specs.Prelude.{ℕ, List, ◌++◌, codes, decimal}
use Rattle.isis_edge.specs.declared.reading.WholeFault.{WholeFault}
use Rattle.isis_edge.specs.declared.reading.WholeFault.TheVariants as whole
use Rattle.isis_edge.specs.declared.text.TextFailed.{TextFailed}
use Rattle.isis_edge.specs.declared.text.TextFailed.TheVariants as text
use Rattle.daemon_config.specs.declared.fault.ConfigFault.{ConfigFault}
use Rattle.daemon_config.specs.declared.fault.ConfigFault.TheVariants as config
use Rattle.daemon_config.specs.Words.{kind_word, key_word}
use Rattle.circuit_serve.specs.declared.daemon_end.DaemonEnd.{DaemonEnd}
use Rattle.circuit_serve.specs.declared.daemon_end.DaemonEnd.TheVariants as daemon
use Rattle.lab_keys.specs.Limits.{limit_word}
use Rattle.lab_script.specs.declared.reason.ScriptFault.{ScriptFault}
use Rattle.lab_script.specs.declared.reason.ScriptFault.TheVariants as script
use Rattle.lab_text.specs.declared.fault.RunFault.{RunFault}
use Rattle.lab_text.specs.declared.fault.RunFault.TheVariants as run
use Rattle.isis_daemon.specs.declared.status.Status.{Status}
use Rattle.isis_daemon.specs.declared.status.Status.TheVariants.{Done, Usage, ScriptRefused, ReadFault, WriteFault, TooLong, OutOfMemory, ConfigRefused, NotStarted, LabLimit, WeaveRefused, NoWalk, ScheduleLimit, NoLosses, Absent}
use Rattle.capture_text.specs.Absences.{absence_text}
use Rattle.lab_script.specs.Reasons.{reason_word}
use Rattle.walk_text.specs.declared.fault.WalkFault.{WalkFault}
use Rattle.walk_text.specs.declared.fault.WalkFault.TheVariants as walk
use Rattle.walk_text.specs.Reasons as why
use Rattle.lab_losses.specs.declared.fault.WriteFault.TheVariants as lost
use Rattle.lab_losses.specs.declared.fault.WriteFault as failed
use Rattle.lab_losses.specs.ScriptLosses as losses
use Rattle.lab_losses.specs.declared.reason.LossesReason.TheVariants as lacks
use Rattle.losses_text.specs.declared.merge_fault.MergeFault.{MergeFault}
use Rattle.losses_text.specs.declared.merge_fault.MergeFault.TheVariants as merge
use Rattle.isis_daemon.specs.MergeRuns.{reason_of}
use Rattle.weave_text.specs.declared.fault.WeaveTextFault.{WeaveTextFault}
use Rattle.weave_text.specs.declared.fault.WeaveTextFault.TheVariants as weave
use Rattle.weave_text.specs.Reasons as unwoven

-- what ends a run whose script can't be read (own)
abbrev pub script_status : ScriptFault → Status
script_status (script.Refused line reason) = ScriptRefused line reason
script_status (script.Limit which) = LabLimit which
script_status script.OutOfMemory = OutOfMemory

-- what ends a run whose script didn't come to the end of its report (own)
abbrev pub run_status : RunFault → Status
run_status (run.Refused line reason) = ScriptRefused line reason
run_status (run.Limit which) = LabLimit which
run_status run.Write = WriteFault
run_status run.OutOfMemory = OutOfMemory

-- what ends a run whose walk wasn't written to its end (own)
abbrev pub walk_status : WalkFault → Status
walk_status (walk.Refused line reason) = ScriptRefused line reason
walk_status (walk.Limit which) = LabLimit which
walk_status (walk.NoWalk reason) = NoWalk reason
walk_status walk.Write = WriteFault
walk_status walk.OutOfMemory = OutOfMemory

-- what ends a run whose texts of losses weren't joined (own)
abbrev pub merge_status : MergeFault → Status
merge_status (merge.Refused line reason) = ScriptRefused line (reason_of reason)
merge_status merge.Parts = NoLosses lacks.Parts
merge_status merge.OutOfMemory = OutOfMemory

-- what ends a run whose losses weren't written to their end (own)
abbrev pub losses_status : failed.WriteFault → Status
losses_status (lost.Refused line reason) = ScriptRefused line reason
losses_status (lost.Limit which) = LabLimit which
losses_status lost.Schedules = ScheduleLimit
losses_status (lost.NoLosses reason) = NoLosses reason
losses_status lost.Write = WriteFault
losses_status lost.OutOfMemory = OutOfMemory

-- what ends a run whose weaving wasn't written to its end (own)
abbrev pub weave_status : WeaveTextFault → Status
weave_status (weave.Refused line reason) = ScriptRefused line reason
weave_status (weave.Limit which) = LabLimit which
weave_status (weave.NotWoven journal entry reason) = WeaveRefused journal entry reason
weave_status weave.Write = WriteFault
weave_status weave.OutOfMemory = OutOfMemory

-- what ends a run whose text wasn't written to its end (own)
abbrev pub text_status : TextFailed → Status
text_status text.Write = WriteFault
text_status text.OutOfMemory = OutOfMemory

-- what ends a run whose input wasn't read as a whole (own)
abbrev pub whole_status : WholeFault → Status
whole_status whole.Fault = ReadFault
whole_status whole.TooLong = TooLong
whole_status whole.OutOfMemory = OutOfMemory

-- what ends a run whose configuration can't be read (own)
abbrev pub config_status : ConfigFault → Status
config_status (config.Refused what key) = ConfigRefused what key
config_status config.OutOfMemory = OutOfMemory

-- what ends the run of a daemon (own)
abbrev pub daemon_status : DaemonEnd → Status
daemon_status daemon.Done = Done
daemon_status daemon.NotStarted = NotStarted
daemon_status daemon.WriteFault = WriteFault
daemon_status daemon.OutOfMemory = OutOfMemory

-- the exit code (own)
abbrev pub status_code : Status → ℕ
status_code Done = 0
status_code Usage = 2
status_code (ScriptRefused line reason) = 3
status_code ReadFault = 4
status_code WriteFault = 5
status_code TooLong = 6
status_code OutOfMemory = 7
status_code (ConfigRefused what key) = 8
status_code NotStarted = 9
status_code (LabLimit which) = 10
status_code (WeaveRefused journal entry reason) = 11
status_code (NoWalk reason) = 12
status_code ScheduleLimit = 10
status_code (NoLosses reason) = 13
status_code (Absent what) = 0

-- what stands on standard error; of what is done nothing is printed (own)
abbrev pub status_line : Status → List ℕ
status_line Done = codes "isis: done"
status_line Usage = codes "isis: usage"
status_line (ScriptRefused line reason) =
    codes "isis: line " ++ decimal line ++ codes " " ++ reason_word reason
status_line ReadFault = codes "isis: read fault"
status_line WriteFault = codes "isis: write fault"
status_line TooLong = codes "isis: input too long"
status_line OutOfMemory = codes "isis: out of memory"
status_line (ConfigRefused what key) =
    codes "isis: config " ++ kind_word what ++ codes " " ++ key_word key
status_line NotStarted = codes "isis: not started"
status_line (LabLimit which) = codes "isis: limit " ++ limit_word which
status_line (WeaveRefused journal entry reason) =
    codes "isis: journal " ++ decimal journal ++ codes " entry " ++ decimal entry ++ codes " "
    ++ unwoven.reason_word reason
status_line (NoWalk reason) = codes "isis: no walk " ++ why.reason_word reason
status_line ScheduleLimit = codes "isis: limit schedules"
status_line (NoLosses reason) = codes "isis: no losses " ++ losses.reason_word reason
status_line (Absent what) = codes "isis: " ++ absence_text what
