use Rattle.trace_text.proofs.ArriveLemmas.{alone}
use Rattle.trace_text.proofs.laws.whichever_law.Goals as goal

pub returns : goal.returns
returns c = alone c.forward_law.ensures c.routes_laws.ensures.longest
