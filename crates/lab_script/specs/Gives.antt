-- Answers that are as expected, unless there was no memory for it (own).
use Rattle.std.specs.Prelude.{◌≡◌, Result, Ok, Err}
use Rattle.lab_script.specs.declared.reason.ScriptFault.{ScriptFault}
use Rattle.lab_script.specs.declared.reason.ScriptFault.TheVariants.{Refused, Limit, OutOfMemory}

-- what a call answered, and the value after it, are what is expected, unless there was no memory for it
abbrev pub Gives : {X : Type 0} → Result (Unit {0}) ScriptFault → X → Result X ScriptFault → Type 0
Gives (Ok done) after expected = expected ≡ Ok after
Gives (Err OutOfMemory) after expected = Unit {0}
Gives (Err (Refused line reason)) after expected = expected ≡ Err (Refused line reason)
Gives (Err (Limit which)) after expected = expected ≡ Err (Limit which)

-- what a call answered is what is expected, unless there was no memory for it
abbrev pub Answers : {X : Type 0} → Result X ScriptFault → Result X ScriptFault → Type 0
Answers (Ok value) expected = expected ≡ Ok value
Answers (Err OutOfMemory) expected = Unit {0}
Answers (Err (Refused line reason)) expected = expected ≡ Err (Refused line reason)
Answers (Err (Limit which)) expected = expected ≡ Err (Limit which)
