use Rattle.std.proofs.Common.{◌≡◌, ◌++◌, drop}
use Rattle.std.specs.List.{flat_map}
use Rattle.state_text.specs.StateLines.{drop_line}
use Rattle.state_text.proofs.drop_lines.add_causes.Given as goal

-- what is written, and what is left
abbrev pub invariant-loop-cause : goal.invariant-loop-cause
invariant-loop-cause l =
    l.page ++ flat_map (drop_line l.router) (drop l.cause-index l.causes)
    ≡ l.fn.page ++ flat_map (drop_line l.router) l.causes
