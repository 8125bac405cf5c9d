use Rattle.ipv6_reach.proofs.TakenLemmas.{taken_held}
use Rattle.ipv6_reach.proofs.laws.taken_law.Goals as goal

pub returns : goal.returns
returns c = λ level taken end are n. taken_held level taken end are n
