use Rattle.std.proofs.Common.{◌≡◌, ◌++◌, drop, map}
use Rattle.line_cuts.specs.Words.{texts}
use Rattle.losses_text.specs.Said.{lost_of}
use Rattle.losses_text.specs.Named.{named}
use Rattle.losses_text.proofs.naming.name_losses.Given as goal

-- those that are named, and those that are left
abbrev pub invariant-loop-loss : goal.invariant-loop-loss
invariant-loop-loss l =
    map lost_of l.named_losses.items ++ map (named (texts l.names)) (drop l.loss-index l.lost) ≡ map (named (texts l.names)) l.lost
