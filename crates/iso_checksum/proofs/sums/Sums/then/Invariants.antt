use Rattle.std.proofs.Common.{◌≡◌, ◌+◌, ◌*◌, drop, length}
use Rattle.iso_checksum.specs.Checksum.{octet_sum, weighted_sum}
use Rattle.iso_checksum.proofs.sums.Sums.then.Given as goal

-- the sums so far and those of what is left make the whole
abbrev pub invariant-loop-octet : goal.invariant-loop-octet
invariant-loop-octet l = record {
  plain : l.plain + octet_sum (drop l.octet-index l.block) ≡ l.fn.self.plain + octet_sum l.block;
  weighted : l.weighted + weighted_sum (drop l.octet-index l.block)
      ≡ l.fn.self.weighted + length l.block * l.fn.self.plain + weighted_sum l.block;
  weight : l.weight + l.octet-index ≡ length l.block;
}
