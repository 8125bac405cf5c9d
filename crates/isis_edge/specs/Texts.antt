-- What is printed of faults (own).
use Rattle.std.specs.Prelude.{ℕ, List, codes}
use Rattle.isis_edge.specs.declared.reading.WholeFault.{WholeFault}
use Rattle.isis_edge.specs.declared.reading.WholeFault.TheVariants as whole
use Rattle.isis_edge.specs.declared.text.TextFailed.{TextFailed}
use Rattle.isis_edge.specs.declared.text.TextFailed.TheVariants as text

-- why an input wasn't read as a whole, in words (own)
abbrev pub whole_fault_text : WholeFault → List ℕ
whole_fault_text whole.Fault = codes "read fault"
whole_fault_text whole.TooLong = codes "input too long"
whole_fault_text whole.OutOfMemory = codes "out of memory"

-- why a text wasn't written to its end, in words (own)
abbrev pub text_failed_text : TextFailed → List ℕ
text_failed_text text.Write = codes "write fault"
text_failed_text text.OutOfMemory = codes "out of memory"
