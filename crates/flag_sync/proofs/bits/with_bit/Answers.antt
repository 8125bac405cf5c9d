use Rattle.std.proofs.Common.{ap, bit_or}
use Rattle.std.proofs.lemmas.Nat.{one_shl}
use Rattle.model_router.specs.Sets.{with_one}
use Rattle.flag_sync.proofs.bits.with_bit.Goals as goal

pub returns : goal.returns
unfolding with_one
returns c = ap (bit_or c.args.set) (one_shl c.args.place 64 c.requires)
