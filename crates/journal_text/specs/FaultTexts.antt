-- What is said of a journal that can't be read (own).
use Rattle.std.specs.Prelude.{ℕ, List, ◌++◌, codes, decimal}
use Rattle.journal_text.specs.declared.fault.JournalFault.{JournalFault}
use Rattle.journal_text.specs.declared.fault.JournalFault.TheVariants.{Line, OutOfMemory}

-- own
abbrev pub journal_fault_text : JournalFault → List ℕ
journal_fault_text (Line line) = codes "line " ++ decimal line
journal_fault_text OutOfMemory = codes "out of memory"
