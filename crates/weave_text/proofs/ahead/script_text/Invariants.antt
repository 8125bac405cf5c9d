use Rattle.std.proofs.Common.{◌≡◌, ◌++◌, ◌-◌, take}
use Rattle.weave_text.specs.Ahead.{script_text}
use Rattle.weave_text.specs.Lines.{text_of}
use Rattle.weave_text.proofs.ahead.script_text.Given as goal

abbrev pub invariant-loop-place : goal.invariant-loop-place
invariant-loop-place l =
    l.text ++ text_of (take (l.count - l.place) l.left.lines)
    ≡ script_text (take l.count l.lines.lines)
