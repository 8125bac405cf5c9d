use Rattle.std.proofs.Common.{◌+◌, ◌*◌, ◌%◌, List, length, ℕ, ap, sym, ◌∙◌, arith}
use Rattle.std.specs.Slice.Iter.{chunks_rest}
use Rattle.iso_checksum.specs.Checksum.{octet_sum, weighted_sum}
use Rattle.iso_checksum.proofs.SumLemmas.{octet_sum-reduced, weighted_sum-reduced}
use Rattle.iso_checksum.proofs.sums.Sums.of.Goals as goal

pub loop-block-preserved : goal.loop-block-preserved
loop-block-preserved c =
    let steps = c.in-Some.ensures.steps in
    let sums = c.loop-block.sums in
    let block = c.in-Some.block.now in
    let rest = chunks_rest c.next.new.self in
    record {
      size = omega arith;
      reduced = (omega arith, omega arith);
      plain = rw c.then-sums.ensures.plain (octet_sum-reduced sums.plain block rest ∙ ap (λ (xs : List ℕ). (sums.plain + octet_sum xs) % 255) (sym steps.1.0) ∙ c.loop-block.invariant.plain);
      weighted = rw (c.then-sums.ensures.weighted, c.then-sums.ensures.plain) (weighted_sum-reduced sums.plain sums.weighted block rest ∙ ap (λ (xs : List ℕ). (sums.weighted + length xs * sums.plain + weighted_sum xs) % 255) (sym steps.1.0) ∙ c.loop-block.invariant.weighted);
    }
