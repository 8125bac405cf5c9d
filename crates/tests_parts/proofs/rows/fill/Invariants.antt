use Rattle.std.proofs.Common.{◌≡◌}
use Rattle.tests_parts.proofs.rows.fill.Given as goal

abbrev pub invariant-loop-number : goal.invariant-loop-number
invariant-loop-number l = l.book.circuits ≡ 3
