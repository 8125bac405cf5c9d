use Rattle.std.proofs.Common.{◌≡◌, length}
use Rattle.journal_text.specs.Fields.{cause_among}
use Rattle.journal_text.proofs.fields.cause_among.Given as goal

abbrev pub invariant-loop-left : goal.invariant-loop-left
invariant-loop-left l = record {
  same : cause_among l.left l.word ≡ cause_among l.causes l.word;
}

abbrev pub decreases-loop-left : goal.decreases-loop-left
decreases-loop-left l = length l.left
