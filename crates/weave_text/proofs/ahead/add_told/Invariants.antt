use Rattle.std.proofs.Common.{◌≡◌, ◌++◌, ◌-◌, take}
use Rattle.weave_text.specs.Ahead.{told_in}
use Rattle.weave_text.specs.Lines.{text_of}
use Rattle.weave_text.proofs.ahead.add_told.Given as goal

abbrev pub invariant-loop-place : goal.invariant-loop-place
invariant-loop-place l =
    l.text ++ text_of (told_in (take (l.count - l.place) l.left.lines))
    ≡ l.fn.text ++ text_of (told_in (take l.count l.lines.lines))
