use Rattle.std.proofs.Common.{ℕ, nat_eq, ap}
use Rattle.std.proofs.lemmas.Nat.Bits.{shr_and_one}
use Rattle.model_router.specs.Sets.{has}
use Rattle.timeline_text.proofs.flags.has_srm.Goals as goal

pub returns : goal.returns
unfolding has
returns c = ap (λ (n : ℕ). nat_eq n 1) (shr_and_one c.args.row.now.srm c.args.place)
