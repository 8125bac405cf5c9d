-- An acknowledgement clears the flag.
use Rattle.network_lab.proofs.AckLemmas.{snp-taken, ack-clears}
use Rattle.network_lab.proofs.laws.acknowledgement_laws.Goals as goal

pub returns-clause-taken : goal.returns-clause-taken
returns-clause-taken c = snp-taken

pub returns-clause-delivered : goal.returns-clause-delivered
returns-clause-delivered c = ack-clears
