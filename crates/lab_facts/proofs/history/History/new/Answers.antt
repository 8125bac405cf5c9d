use Rattle.std.proofs.Common.{ap}
use Rattle.flag_sync.specs.Walks.{numbers_of}
use Rattle.lab_facts.specs.Entries.{kept_of}
use Rattle.lab_facts.proofs.SightingLemmas.{remembers-none}
use Rattle.lab_facts.proofs.history.History.new.Goals as goal

pub returns : goal.returns
returns c = remembers-none _ (ap kept_of c.new.ensures.empty) (ap numbers_of c.new-2.ensures.items)
