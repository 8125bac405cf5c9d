-- The two ends of a link are there.
use Rattle.std.proofs.Common.{arith}
use Rattle.lab_report.proofs.EndLemmas.{end-there}
use Rattle.lab_report.proofs.link_lines.both_run.Goals as goal

pub is_point-requires : goal.is_point-requires
is_point-requires c = end-there c.args.net.now.seen c.args.link c.ends.result.now 0 _ c.facts.ensures.ends c.ends.ensures (omega (arith, c.in-len2.len_at_least))

pub is_point-requires-then-is_point : goal.is_point-requires-then-is_point
is_point-requires-then-is_point c = end-there c.args.net.now.seen c.args.link c.ends.result.now 1 _ c.facts.ensures.ends c.ends.ensures (omega (arith, c.in-len2.len_at_least))
