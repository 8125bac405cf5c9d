use Rattle.std.proofs.Common.{◌+◌, length, arith}
use Rattle.std.proofs.lemmas.Nat.{mul-le}
use Rattle.iso_checksum.proofs.SumLemmas.{octet_sum-le, weighted_sum-le, octet_sum-drop, weighted_sum-drop}
use Rattle.iso_checksum.proofs.sums.Sums.then.Goals as goal

pub overflow_add-plain : goal.overflow_add-plain
overflow_add-plain c =
    let whole = octet_sum-le c.args.block.now c.type_inv.block in
    let here = octet_sum-drop c.args.block.now c.loop-octet.octet-index c.loop-octet-test.true in
    omega arith

pub overflow_add-weighted-in-loop-octet : goal.overflow_add-weighted-in-loop-octet
overflow_add-weighted-in-loop-octet c =
    let block = c.args.block.now in
    let whole = weighted_sum-le block c.type_inv.block in
    let longest = mul-le (length block) (length block + 1) 5802 5803 (omega arith) (omega arith) in
    let carried = mul-le (length block) c.args.self.plain 5802 254 (omega arith) (omega arith) in
    let here = weighted_sum-drop block c.loop-octet.octet-index c.loop-octet.weight c.loop-octet-test.true (omega arith) in
    rw c.from-octet.ensures (omega arith)
