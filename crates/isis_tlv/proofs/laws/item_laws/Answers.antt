use Rattle.isis_tlv.specs.Items.{area_at, snpa_at, entry_at, neighbour_at, prefix_at}
use Rattle.isis_tlv.specs.Spelling.{area_octets, entry_octets, neighbour_octets, prefix_octets}
use Rattle.isis_tlv.specs.Fits.{IsArea, IsSnpa, IsEntry, IsNeighbour, IsPrefix}
use Rattle.isis_tlv.proofs.RoundLemmas.{values-reads_back, area-reads_back, snpa-reads_back, entry-reads_back, neighbour-reads_back}
use Rattle.isis_tlv.proofs.PrefixLemmas.{prefix-reads_back}
use Rattle.isis_tlv.proofs.ThreeWayLemmas.{three_way-reads_back}
use Rattle.isis_tlv.specs.Takes.{area-takes_one, snpa-takes_one, entry-takes_one, neighbour-takes_one, prefix-takes_one}
use Rattle.isis_tlv.proofs.laws.item_laws.Goals as goal

pub returns-clause-areas : goal.returns-clause-areas
returns-clause-areas c = λ list all. values-reads_back area_at area-takes_one area_octets IsArea area-reads_back 0 list all

pub returns-clause-snpas : goal.returns-clause-snpas
returns-clause-snpas c = λ list all. values-reads_back snpa_at snpa-takes_one (λ snpa. snpa.0) IsSnpa snpa-reads_back 0 list all

pub returns-clause-entries : goal.returns-clause-entries
returns-clause-entries c = λ list all. values-reads_back entry_at entry-takes_one entry_octets IsEntry entry-reads_back 0 list all

pub returns-clause-neighbours : goal.returns-clause-neighbours
returns-clause-neighbours c = λ list all. values-reads_back neighbour_at neighbour-takes_one neighbour_octets IsNeighbour neighbour-reads_back 0 list all

pub returns-clause-prefixes : goal.returns-clause-prefixes
returns-clause-prefixes c = λ list all. values-reads_back prefix_at prefix-takes_one prefix_octets IsPrefix prefix-reads_back 0 list all

pub returns-clause-three_way : goal.returns-clause-three_way
returns-clause-three_way c = λ value is. three_way-reads_back value is
