use Rattle.std.proofs.Common.{◌≡◌, ◌+◌, ◌≤◌, length}
use Rattle.lab_script.specs.Fields.{are_names}
use Rattle.lab_script.proofs.members.are_members.Given as goal

abbrev pub invariant-loop-word : goal.invariant-loop-word
invariant-loop-word l = record {
  names : are_names l.words ≡ are_names l.fn.words;
  counted : l.count + length l.words ≡ length l.fn.words;
  few : l.count ≤ 64;
}

abbrev pub decreases-loop-word : goal.decreases-loop-word
decreases-loop-word l = length l.words
