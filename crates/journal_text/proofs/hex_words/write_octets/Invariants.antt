use Rattle.std.proofs.Common.{◌≡◌, length}
use Rattle.journal_text.specs.HexWords.{are_octets}
use Rattle.journal_text.proofs.hex_words.write_octets.Given as goal

abbrev pub invariant-loop-word : goal.invariant-loop-word
invariant-loop-word l = record {
  octets : are_octets l.words ≡ are_octets l.fn.words;
}

abbrev pub decreases-loop-word : goal.decreases-loop-word
decreases-loop-word l = length l.words
