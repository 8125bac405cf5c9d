use Rattle.isis_pdu.proofs.RoundLemmas.{begins-reads_back, length-spelled}
use Rattle.isis_pdu.proofs.laws.round_trip_law.Goals as goal

pub returns-clause-sized : goal.returns-clause-sized
returns-clause-sized c = length-spelled

pub returns-clause-begins : goal.returns-clause-begins
returns-clause-begins c = begins-reads_back
