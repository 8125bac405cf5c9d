-- What is printed of faults of scripts (own).
use Rattle.std.specs.Prelude.{ℕ, List, ◌++◌, codes, decimal}
use Rattle.lab_keys.specs.declared.faults.LimitName.{LimitName}
use Rattle.lab_keys.specs.Limits.{limit_word}
use Rattle.lab_script.specs.declared.reason.Reason.{Reason}
use Rattle.lab_script.specs.declared.reason.ScriptFault.{ScriptFault}
use Rattle.lab_script.specs.declared.reason.ScriptFault.TheVariants as script
use Rattle.lab_script.specs.Reasons.{reason_word}

abbrev pub refused_text : ℕ → Reason → List ℕ
refused_text line reason = codes "line " ++ decimal line ++ codes " " ++ reason_word reason

abbrev pub limit_text : LimitName → List ℕ
limit_text which = codes "limit " ++ limit_word which

-- why a script can't be read, in words
abbrev pub script_fault_text : ScriptFault → List ℕ
script_fault_text (script.Refused line reason) = refused_text line reason
script_fault_text (script.Limit which) = limit_text which
script_fault_text script.OutOfMemory = codes "out of memory"
