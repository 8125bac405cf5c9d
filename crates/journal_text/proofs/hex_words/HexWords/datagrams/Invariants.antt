use Rattle.std.proofs.Common.{◌≡◌, ◌++◌, length}
use Rattle.journal_text.proofs.hex_words.HexWords.datagrams.Given as goal

abbrev pub invariant-loop-hex : goal.invariant-loop-hex
invariant-loop-hex l = record {
  read : l.datagrams ++ l.left ≡ l.self;
}

abbrev pub decreases-loop-hex : goal.decreases-loop-hex
decreases-loop-hex l = length l.left
