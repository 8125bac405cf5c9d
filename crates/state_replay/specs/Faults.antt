-- Why no state was written: what is printed of it, and what it is when a line wasn't read (own).
use Rattle.std.specs.Prelude.{◌≡◌, ℕ, List, ◌++◌, codes, decimal, Err}
use Rattle.daemon_config.specs.Words.{kind_word, key_word}
use Rattle.daemon_config.specs.Steps.{Reading}
use Rattle.daemon_config.specs.declared.settings.Settings.{Settings}
use Rattle.daemon_config.specs.declared.fault.ConfigFault.TheVariants.{Refused}
use Rattle.line_source.specs.declared.fault.LineFault.{LineFault}
use Rattle.line_source.specs.declared.fault.LineFault.TheVariants as line
use Rattle.state_replay.specs.declared.fault.StateFault.{StateFault}
use Rattle.state_replay.specs.declared.fault.StateFault.TheVariants as fault

-- own
abbrev pub state_fault_text : StateFault → List ℕ
state_fault_text fault.Read = codes "read fault"
state_fault_text fault.TooLong = codes "input too long"
state_fault_text (fault.Head line) = codes "line " ++ decimal line ++ codes " head"
state_fault_text (fault.Config what key) =
    codes "config " ++ kind_word what ++ codes " " ++ key_word key
state_fault_text (fault.Form line) = codes "line " ++ decimal line ++ codes " form"
state_fault_text (fault.Event entry) =
    codes "journal 1 entry " ++ decimal entry ++ codes " event"
state_fault_text (fault.Reply entry) =
    codes "journal 1 entry " ++ decimal entry ++ codes " reply"
state_fault_text fault.Write = codes "write fault"
state_fault_text fault.OutOfMemory = codes "out of memory"

-- why there is no state where a line wasn't read (own)
abbrev pub line_fault : LineFault → StateFault
line_fault line.Read = fault.Read
line_fault line.TooLong = fault.TooLong
line_fault line.OutOfMemory = fault.OutOfMemory

abbrev pub no_memory : StateFault
no_memory = fault.OutOfMemory

-- the fault of a configuration that is refused (own)
abbrev pub IsConfigFault : Reading Settings → StateFault → Type 0
IsConfigFault reading (fault.Config what key) = reading ≡ Err (Refused what key)
IsConfigFault reading fault.Read = ⊥
IsConfigFault reading fault.TooLong = ⊥
IsConfigFault reading (fault.Head line) = ⊥
IsConfigFault reading (fault.Form line) = ⊥
IsConfigFault reading (fault.Event entry) = ⊥
IsConfigFault reading (fault.Reply entry) = ⊥
IsConfigFault reading fault.Write = ⊥
IsConfigFault reading fault.OutOfMemory = ⊥
