use Rattle.std.proofs.Common.{◌≡◌, ◌++◌, map, drop}
use Rattle.capture_text.specs.CapturedRoutes.{own_of}
use Rattle.capture_text.proofs.best.add_own.Given as goal

-- what is added, and what is left
abbrev pub invariant-loop-item : goal.invariant-loop-item
invariant-loop-item l =
    l.own.items ++ map own_of (drop l.item-index l.items) ≡ l.fn.own.items ++ map own_of l.items
