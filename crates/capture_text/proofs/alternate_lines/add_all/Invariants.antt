use Rattle.std.proofs.Common.{◌≡◌, ◌++◌, drop}
use Rattle.std.specs.List.{flat_map}
use Rattle.capture_text.specs.AlternatesText.{alternate_line}
use Rattle.capture_text.proofs.alternate_lines.add_all.Given as goal

-- what is written, and what is left
abbrev pub invariant-loop-told : goal.invariant-loop-told
invariant-loop-told l =
    l.page ++ flat_map (alternate_line l.target l.hop) (drop l.told-index l.list)
    ≡ l.fn.page ++ flat_map (alternate_line l.target l.hop) l.list
