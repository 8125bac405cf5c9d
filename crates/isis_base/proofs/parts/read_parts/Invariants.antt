use Rattle.std.proofs.Common.{◌≡◌, ◌+◌, length, take, ◌++◌}
use Rattle.isis_base.specs.Texts.{octet_count}
use Rattle.isis_base.specs.Misfit.{later, misfit_of, octets_of}
use Rattle.isis_base.proofs.parts.read_parts.Given as goal

abbrev pub invariant-loop-left : goal.invariant-loop-left
invariant-loop-left l = record {
  answer : later l.at (misfit_of l.left l.rest) ≡ misfit_of l.fn.parts l.fn.text;
  filled : take l.count l.octets ++ octets_of l.left l.rest ≡ octets_of l.fn.parts l.fn.text;
  places : l.at + length l.rest ≡ length l.fn.text;
  counts : l.count + octet_count l.left ≡ octet_count l.fn.parts;
}

abbrev pub decreases-loop-left : goal.decreases-loop-left
decreases-loop-left l = length l.left
