use Rattle.std.proofs.Common.{◌≡◌, ◌++◌, drop}
use Rattle.std.specs.List.{flat_map}
use Rattle.state_text.specs.StateLines.{boot_line}
use Rattle.state_text.proofs.circuit_lines.add_boots.Given as goal

-- what is written, and what is left
abbrev pub invariant-loop-heard : goal.invariant-loop-heard
invariant-loop-heard l =
    l.page ++ flat_map (boot_line l.number) (drop l.heard-index l.boots)
    ≡ l.fn.page ++ flat_map (boot_line l.number) l.boots
