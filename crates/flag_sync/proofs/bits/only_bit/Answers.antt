use Rattle.std.proofs.Common.{ap, bit_and}
use Rattle.std.proofs.lemmas.Nat.{one_shl}
use Rattle.model_router.specs.Sets.{only}
use Rattle.flag_sync.proofs.bits.only_bit.Goals as goal

pub returns : goal.returns
unfolding only
returns c = ap (bit_and c.args.set) (one_shl c.args.place 64 c.requires)
