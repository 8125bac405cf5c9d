use Rattle.std.proofs.Common.{ℕ, ap, bit_and, bit_xor}
use Rattle.std.proofs.lemmas.Nat.{one_shl}
use Rattle.model_router.specs.Sets.{without}
use Rattle.flag_sync.proofs.bits.without_bit.Goals as goal

pub returns : goal.returns
unfolding without
returns c = ap (λ (n : ℕ). bit_xor c.args.set (bit_and c.args.set n)) (one_shl c.args.place 64 c.requires)
