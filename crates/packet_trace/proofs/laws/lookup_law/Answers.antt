use Rattle.packet_trace.proofs.LookupLemmas.{looked}
use Rattle.packet_trace.proofs.laws.lookup_law.Goals as goal

pub returns : goal.returns
returns c = looked
