use Rattle.isis_tlv.proofs.StepLemmas.{area-first, area-bad, area-short, snpa-first, snpa-short, entry-first, entry-short, neighbour-first, neighbour-short, prefix-first, prefix-subs-first, prefix-long, prefix-short, subs-short}
use Rattle.isis_tlv.proofs.laws.item_steps.Goals as goal

pub returns-clause-area : goal.returns-clause-area
returns-clause-area c = area-first

pub returns-clause-area_length : goal.returns-clause-area_length
returns-clause-area_length c = area-bad

pub returns-clause-area_past : goal.returns-clause-area_past
returns-clause-area_past c = area-short

pub returns-clause-snpa : goal.returns-clause-snpa
returns-clause-snpa c = snpa-first

pub returns-clause-snpa_past : goal.returns-clause-snpa_past
returns-clause-snpa_past c = snpa-short

pub returns-clause-entry : goal.returns-clause-entry
returns-clause-entry c = entry-first

pub returns-clause-entry_past : goal.returns-clause-entry_past
returns-clause-entry_past c = entry-short

pub returns-clause-neighbour : goal.returns-clause-neighbour
returns-clause-neighbour c = neighbour-first

pub returns-clause-neighbour_past : goal.returns-clause-neighbour_past
returns-clause-neighbour_past c = neighbour-short

pub returns-clause-prefix : goal.returns-clause-prefix
returns-clause-prefix c = prefix-first

pub returns-clause-prefix_subs : goal.returns-clause-prefix_subs
returns-clause-prefix_subs c = prefix-subs-first

pub returns-clause-prefix_length : goal.returns-clause-prefix_length
returns-clause-prefix_length c = prefix-long

pub returns-clause-prefix_past : goal.returns-clause-prefix_past
returns-clause-prefix_past c = prefix-short

pub returns-clause-subs_past : goal.returns-clause-subs_past
returns-clause-subs_past c = subs-short
