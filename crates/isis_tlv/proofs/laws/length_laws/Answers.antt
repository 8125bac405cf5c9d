use Rattle.isis_tlv.proofs.LengthLemmas.{length-areas, length-prefixes}
use Rattle.isis_tlv.proofs.laws.length_laws.Goals as goal

pub returns-clause-areas : goal.returns-clause-areas
returns-clause-areas c = length-areas

pub returns-clause-prefixes : goal.returns-clause-prefixes
returns-clause-prefixes c = length-prefixes
