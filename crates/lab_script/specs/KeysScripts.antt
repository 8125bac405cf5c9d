-- Keys scripts: what a line adds to one, or why it is refused (own).
use Rattle.std.specs.Prelude.{ℕ, Option, Some, None, Result, Ok, Err}
use Rattle.lab_keys.specs.declared.faults.LimitName.{LimitName}
use Rattle.lab_script.specs.declared.line.KeysLine.{KeysLine}
use Rattle.lab_script.specs.declared.reason.Reason.{Reason}
use Rattle.lab_script.specs.declared.reason.Reason.TheVariants.{Form}
use Rattle.lab_script.specs.declared.reason.ScriptFault.{ScriptFault}
use Rattle.lab_script.specs.declared.reason.ScriptFault.TheVariants.{Refused, Limit}
use Rattle.lab_script.specs.KeysJudged.{KeysScript, first_reason, limit_of, with_line}

-- a line is refused for the first reason that applies, or else for the limit that it passes
abbrev pub unless_refused : {X : Type 0} → ℕ → Option Reason → Option LimitName → X
    → Result X ScriptFault
unless_refused number (Some reason) limit after = Err (Refused number reason)
unless_refused number None (Some which) after = Err (Limit which)
unless_refused number None None after = Ok after

-- the script with a line of this number more; one that has no form is refused first
abbrev pub hear_line : KeysScript → ℕ → Option KeysLine → Result KeysScript ScriptFault
hear_line so_far number None = Err (Refused number Form)
hear_line so_far number (Some line) =
    unless_refused number (first_reason so_far line) (limit_of so_far line)
    (with_line so_far number line)
