use Rattle.trace_text.proofs.ArriveLemmas.{arrived}
use Rattle.trace_text.proofs.laws.trace_law.Goals as goal

pub returns : goal.returns
returns c = arrived c.forward_law.ensures c.routes_laws.ensures.longest
