use Rattle.std.proofs.Common.{◌≡◌, ◌+◌, ◌≤◌, ℕ, List, length, Some}
use Rattle.flag_sync.specs.Walks.{numbers_of}
use Rattle.lab_facts.specs.Excepted.{count_beyond}
use Rattle.lab_facts.proofs.counts.listed_beyond.Given as goal

abbrev pub invariant-loop-left : goal.invariant-loop-left
invariant-loop-left l = record {
  count : (listed : List ℕ) → l.gone ≡ Some listed → l.count + count_beyond listed (numbers_of l.left) ≡ count_beyond listed (numbers_of l.ids);
  few : l.count + length l.left ≤ length l.ids;
}

abbrev pub decreases-loop-left : goal.decreases-loop-left
decreases-loop-left l = length l.left
