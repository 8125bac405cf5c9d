-- How a daemon ends (own).
use Rattle.circuit_serve.specs.declared.end.ServeEnd.{ServeEnd}
use Rattle.circuit_serve.specs.declared.end.ServeEnd.TheVariants as serve
use Rattle.circuit_serve.specs.declared.daemon_end.DaemonEnd.{DaemonEnd}
use Rattle.circuit_serve.specs.declared.daemon_end.DaemonEnd.TheVariants.{Done, NotStarted, WriteFault, OutOfMemory}

-- how it ends whose router was served so (own)
abbrev pub end_of : ServeEnd → DaemonEnd
end_of serve.Done = Done
end_of serve.NotStarted = NotStarted
end_of (serve.Journal entry) = WriteFault
end_of serve.OutOfMemory = OutOfMemory
