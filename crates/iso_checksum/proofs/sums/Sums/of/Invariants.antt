use Rattle.std.proofs.Common.{◌≡◌, ◌<◌, ◌+◌, ◌*◌, ◌%◌, length}
use Rattle.std.specs.Slice.Iter.{chunks_rest, chunks_size}
use Rattle.iso_checksum.specs.Checksum.{octet_sum, weighted_sum}
use Rattle.iso_checksum.proofs.sums.Sums.of.Given as goal

-- the sums so far and those of what is left make the whole
abbrev pub invariant-loop-block : goal.invariant-loop-block
invariant-loop-block l = record {
  size : chunks_size l.block-iterator ≡ 5802;
  reduced : (l.sums.plain < 255) × (l.sums.weighted < 255);
  plain : (l.sums.plain + octet_sum (chunks_rest l.block-iterator)) % 255 ≡ octet_sum l.octets % 255;
  weighted : (l.sums.weighted + length (chunks_rest l.block-iterator) * l.sums.plain + weighted_sum (chunks_rest l.block-iterator)) % 255
      ≡ weighted_sum l.octets % 255;
}
