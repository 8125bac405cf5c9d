-- What is printed of faults (own).
use Rattle.std.specs.Prelude.{ℕ, List, codes}
use Rattle.line_source.specs.declared.fault.LineFault.{LineFault}
use Rattle.line_source.specs.declared.fault.LineFault.TheVariants as fault

-- why no line was read, in words (own)
abbrev pub line_fault_text : LineFault → List ℕ
line_fault_text fault.Read = codes "read fault"
line_fault_text fault.TooLong = codes "line too long"
line_fault_text fault.OutOfMemory = codes "out of memory"
