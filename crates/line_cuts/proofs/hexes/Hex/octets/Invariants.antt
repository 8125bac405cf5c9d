use Rattle.std.proofs.Common.{◌≡◌, ◌++◌, length}
use Rattle.line_cuts.specs.HexTexts.{AreDigits, octets_in}
use Rattle.line_cuts.proofs.hexes.Hex.octets.Given as goal

abbrev pub invariant-loop-left : goal.invariant-loop-left
invariant-loop-left l = record {
  digits : AreDigits l.left;
  read : l.octets ++ octets_in l.left ≡ l.self;
}

abbrev pub decreases-loop-left : goal.decreases-loop-left
decreases-loop-left l = length l.left
