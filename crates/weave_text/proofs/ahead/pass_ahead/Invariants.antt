use Rattle.std.proofs.Common.{◌≡◌, ◌≤◌, ◌+◌, ◌-◌, length, drop}
use Rattle.weave_text.specs.Ahead.{ahead_count}
use Rattle.weave_text.proofs.ahead.pass_ahead.Given as goal

-- so many lines were passed
abbrev pub invariant-loop-line : goal.invariant-loop-line
invariant-loop-line l = record {
  same : l.behind ≡ l.left;
  first : l.first ≡ l.lines.number;
  past : l.first ≤ l.left.number;
  counted : (l.left.number - l.first) + ahead_count l.left.lines ≡ ahead_count l.lines.lines;
  dropped : l.left.lines ≡ drop (l.left.number - l.first) l.lines.lines;
}

abbrev pub decreases-loop-line : goal.decreases-loop-line
decreases-loop-line l = length l.left.lines
