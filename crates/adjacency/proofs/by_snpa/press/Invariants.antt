use Rattle.std.proofs.Common.{◌≡◌, ◌≤◌, length, take, drop, ◌++◌}
use Rattle.adjacency.specs.Inside.{all_less}
use Rattle.adjacency.proofs.by_snpa.press.Given as goal

-- those that stay are in front, and the others are still to be looked at
abbrev pub invariant-loop-at : goal.invariant-loop-at
invariant-loop-at l = record {
  order : l.kept ≤ l.at;
  within : l.at ≤ length l.list;
  end : l.at-end ≡ length l.list;
  so : take l.kept l.list ++ all_less (drop l.at l.list) ≡ all_less l.fn.list;
}
