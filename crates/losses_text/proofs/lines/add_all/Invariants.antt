use Rattle.std.proofs.Common.{◌≡◌, ◌++◌, drop, map}
use Rattle.std.specs.List.{flat_map}
use Rattle.losses_text.specs.Said.{lost_of}
use Rattle.losses_text.specs.LossesText.{lost_line}
use Rattle.losses_text.proofs.lines.add_all.Given as goal

-- what is written, and what is left
abbrev pub invariant-loop-loss : goal.invariant-loop-loss
invariant-loop-loss l =
    l.text ++ flat_map lost_line (map lost_of (drop l.loss-index l.lost)) ≡ l.fn.text ++ flat_map lost_line (map lost_of l.lost)
