-- The CSNPs of a reply list exactly the keys in their ranges, are a level's CSNP set, and cover all LSP IDs.
use Rattle.step_laws.proofs.ListingLemmas.{step-lists, step-set, step-covers}
use Rattle.step_laws.proofs.listings.csnp_law.Goals as goal

pub returns-clause-lists : goal.returns-clause-lists
returns-clause-lists c = step-lists

pub returns-clause-set : goal.returns-clause-set
returns-clause-set c = step-set

pub returns-clause-covers : goal.returns-clause-covers
returns-clause-covers c = step-covers
